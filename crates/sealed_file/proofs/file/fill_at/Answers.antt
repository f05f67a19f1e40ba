use Rattle.std.proofs.Common.{◌≡◌, ◌-◌, ◌∙◌, le_refl, ℕ, IfSome, rules, length, take, drop, sym, subst}
use Rattle.std.proofs.lemmas.Option.{IfSome_then}
use Rattle.std.proofs.lemmas.Slice.{take-put_mid_below}
use borrow.Rule.Slice.PartMut.{put_mid}
use Rattle.sealed_file.proofs.BufferLemmas.{part-read}
use Rattle.sealed_file.proofs.file.fill_at.Goals.{in-Ok, in-Err+in_default}
use Rattle.sealed_file.proofs.file.fill_at.Goals as goal

pub reads-preserved : goal.reads-preserved
reads-preserved g c =
    let (within, read, tried) = c.reads.invariant in
    let room = length c.reads.buf - c.reads.at in
    let known = g.R.ReadAt.bytes c.args.file.now in
    let new = put_mid c.reads.at room c.reads.buf c.read_at.new.buf in
    let has = λ (n : ℕ). IfSome known (λ all. take n new ≡ take n (drop c.args.place all)) in
    elim c.match-read_at.branch [
      | in-Ok w ↦ (
        search rules,
        subst has (sym w.at-is) (part-read known c.reads.at w.in-Ok.n room c.args.place c.reads.buf c.read_at.new.buf
            within w.in-Ok.ensures.bound.0 read w.in-Ok.ensures.read),
        search rules,
      )
      | in-Err+in_default w ↦ (
        search rules,
        subst has (sym w.at-is) (IfSome_then known read (λ all is.
            take-put_mid_below _ _ _ _ _ (le_refl _) within ∙ is)),
        search rules,
      )
    ]
