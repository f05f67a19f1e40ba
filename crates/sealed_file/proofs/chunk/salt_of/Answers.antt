use Rattle.std.proofs.Common.{◌∙◌, ◌++◌, drop, sym, ap, refl}
use Rattle.std.proofs.lemmas.List.{take-append-drop}
use Rattle.sealed_file.proofs.HeaderLemmas.{salt-behind}
use Rattle.sealed_file.proofs.chunk.salt_of.Goals as goal

pub returns-clause-salt : goal.returns-clause-salt
returns-clause-salt c =
    let file = c.args.file.now in
    salt-behind file c.copy_from_slice.new.self
    (sym (take-append-drop 13 file) ∙ ap (λ xs. xs ++ drop 13 file)
    (c.begins_with-2.ensures.decides.0 c.if-not-begins_with-2.false))
    c.if-file-lt32.false c.copy_from_slice.ensures.after

pub returns-clause-accepted : goal.returns-clause-accepted
returns-clause-accepted c = (λ _. (c.copy_from_slice.new.self, returns-clause-salt c), λ _. refl)
