use Rattle.std.proofs.Common.{◌-◌, rules, length, take, ap, sym, subst, ◌∙◌, le_refl}
use Rattle.std.proofs.lemmas.Slice.{take-put_mid_below}
use Rattle.std.specs.Io.KnownBytes.{Consumes}
use Rattle.std.proofs.KnownBytes.{Consumes-trans, Consumes-kept}
use Rattle.sealed_file.proofs.BufferLemmas.{take-put_mid}
use Rattle.sealed_file.proofs.stream.fill.Goals.{in-Ok, in-Err+in_default}
use borrow.Rule.Slice.PartMut.{put_mid}
use Rattle.sealed_file.proofs.stream.fill.Goals as goal

pub reads-preserved : goal.reads-preserved
reads-preserved g c =
    let (within, read) = c.reads.invariant in
    let room = length c.reads.buf - c.reads.at in
    let old = c.reads.buf in
    let new = c.read.new.buf in
    elim c.match-read.branch [
      | in-Ok w ↦ (
        search rules,
        subst (Consumes _ _)
            (sym (ap (λ n. take n (put_mid c.reads.at room old new)) w.at-is
            ∙ take-put_mid c.reads.at w.in-Ok.n room old new within w.in-Ok.ensures.bound.0))
            (Consumes-trans _ _ _ _ _ read w.in-Ok.ensures.bytes.0),
      )
      | in-Err+in_default w ↦ (
        search rules,
        subst (Consumes _ _)
            (sym (ap (λ n. take n (put_mid c.reads.at room old new)) w.at-is
            ∙ take-put_mid_below _ _ _ _ _ (le_refl _) within))
            (Consumes-kept _ _ _ _ read w.in-Err.ensures.bytes),
      )
    ]
