use Rattle.std.proofs.Common.{slice_index, ap, refl, sym, ◌∙◌, arith}
use Rattle.chacha_base.specs.Lanes.{quad}
use Rattle.chacha_base.proofs.ListLemmas.{below_four}
use Rattle.chacha_base.proofs.LaneLemmas.{quads-rotated, rotated-rest}
use Rattle.chacha_base.proofs.backends.vector.U32x16Vector.rotated.Goals.{in-0, in-1, in-2, in_default}
use Rattle.chacha_base.proofs.backends.vector.U32x16Vector.rotated.Goals as goal

pub returns : goal.returns
returns c g h =
    let by = c.args.by in
    let self = c.args.self in
    let long = c.fits-self.0 in
    elim c.match-by-rem4.branch [
      | in-0 w ↦
          ap (λ v. quad (slice_index v) g) w.result-is ∙ sym (rotated-rest by 0 (quad (slice_index self) g) w.in-0.is)
      | in-1 w ↦ quads-rotated 4 by 1 self w.result-is w.in-1.is long (below_four _ refl refl refl refl) g (omega arith)
      | in-2 w ↦ quads-rotated 4 by 2 self w.result-is w.in-2.is long (below_four _ refl refl refl refl) g (omega arith)
      | in_default w ↦
          quads-rotated 4 by 3 self w.result-is (omega (arith, w.in_default)) long
          (below_four _ refl refl refl refl) g (omega arith)
    ]
