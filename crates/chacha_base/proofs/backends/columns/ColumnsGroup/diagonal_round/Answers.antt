use Rattle.std.proofs.Common.{refl}
use Rattle.chacha_base.specs.ChaCha.{diagonals}
use Rattle.chacha_base.proofs.backends.columns.ColumnsGroup.diagonal_round.Goals as goal

pub returns-clause-blocks : goal.returns-clause-blocks
unfolding diagonals
returns-clause-blocks g c j h =
    rw (
      ← c.quarter_round-p.ensures.lanes j h,
      ← c.quarter_round-q.ensures.lanes j h,
      ← c.quarter_round-r.ensures.lanes j h,
      ← c.quarter_round-s.ensures.lanes j h,
    ) refl
