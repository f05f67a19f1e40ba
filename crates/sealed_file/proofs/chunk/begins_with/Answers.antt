use Rattle.std.proofs.Common.{length, take, sym}
use Rattle.std.proofs.lemmas.Slice.Eq.{slice_eq-Decides}
use Rattle.std.proofs.lemmas.Bool.Decides.{Decides-eqb}
use Rattle.sealed_file.proofs.chunk.begins_with.Goals as goal

pub returns-clause-decides : goal.returns-clause-decides
returns-clause-decides c =
    let word = c.args.word.now in
    let (is, none) = slice_eq-Decides Decides-eqb word (take (length word) c.args.file.now) c.starts_with.result
    c.starts_with.ensures.value in
    (λ yes. sym (is yes), λ same. none (sym same))
