use Rattle.std.proofs.Common.{refl, arith}
use Rattle.chacha_base.specs.Lanes.{interleaved_low, interleaved_high}
use Rattle.chacha_base.proofs.ListLemmas.{below_four}
use Rattle.chacha_base.proofs.LaneLemmas.{quads-picked, alternating}
use Rattle.chacha_base.proofs.backends.vector.U32x4Vector.interleaved.Goals as goal

pub returns : goal.returns
returns c = record {
  low = λ g h. quads-picked (alternating 4 1 0) 4 interleaved_low c.args.self c.args.other c.fits-self.0
      c.fits-other.0 (below_four _ refl refl refl refl) g (omega arith);
  high = λ g h. quads-picked (alternating 4 1 2) 4 interleaved_high c.args.self c.args.other c.fits-self.0
      c.fits-other.0 (below_four _ refl refl refl refl) g (omega arith);
}
