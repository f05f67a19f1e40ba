use Rattle.std.proofs.Common.{refl}
use Rattle.chacha_base.specs.ChaCha.{quarter}
use Rattle.chacha_base.proofs.backends.vector.quarter_round.Goals as goal

pub returns-clause-lanes : goal.returns-clause-lanes
unfolding quarter
returns-clause-lanes g c j h =
    rw (
      c.xor_rotated-b2.ensures j h,
      c.plus-c2.ensures j h,
      c.xor_rotated_8-d2.ensures j h,
      c.plus-a2.ensures j h,
      c.xor_rotated-b1.ensures j h,
      c.plus-c1.ensures j h,
      c.xor_rotated_16-d1.ensures j h,
      c.plus-a1.ensures j h,
    ) refl
