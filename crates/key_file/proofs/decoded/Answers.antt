use Rattle.std.proofs.Common.{◌≡◌, length, take, ap, sym, ◌∙◌, arith, refl}
use Rattle.std.proofs.lemmas.List.{length-take}
use Rattle.base64.specs.Engines.{standard}
use Rattle.base64.proofs.EngineFacts.{decode_of_strict}
use Rattle.key_file.proofs.KeyLemmas.{decodes}
use Rattle.key_file.proofs.decoded.Goals as goal

pub returns-in_default-clause-reads : goal.returns-in_default-clause-reads
returns-in_default-clause-reads c key bytes size e =
    let both = sym c.in_default.ensures.err ∙ decodes key c.args.text.now bytes e in
    cc both

pub returns-then-n-ne32-clause-reads : goal.returns-then-n-ne32-clause-reads
returns-then-n-ne32-clause-reads c key bytes size e =
    let is : take c.in-Ok.n c.decode_slice_unchecked.new.output ≡ key =
    (let both = sym c.in-Ok.ensures.ok.0 ∙ decodes key c.args.text.now bytes e in cc both) in
    let n = length-take c.in-Ok.n c.decode_slice_unchecked.new.output in
    absurd (c.if-n-ne32.true (omega (arith, n, ap length is, size)))

pub returns-clause-reads : goal.returns-clause-reads
returns-clause-reads c key bytes size e =
    let is = sym (rw c.if-n-ne32.false at c.in-Ok.ensures.ok.0) ∙ decodes key c.args.text.now bytes e in
    rw c.copy_from_slice.ensures.after (cc is)

pub returns-clause-only : goal.returns-clause-only
returns-clause-only c =
    rw c.copy_from_slice.ensures.after (decode_of_strict standard c.args.text.now _ (refl, refl)
    (λ i. let f = c.type_inv.text i in omega arith) (rw c.if-n-ne32.false at c.in-Ok.ensures.ok.0))
