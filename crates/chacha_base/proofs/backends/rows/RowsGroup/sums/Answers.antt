use Rattle.chacha_base.proofs.RowLemmas.{sums-of-lanes}
use Rattle.chacha_base.proofs.backends.rows.RowsGroup.sums.Goals as goal

pub returns : goal.returns
returns g c b h =
    sums-of-lanes g.V.Vector.QUADS g.V.Vector.lane _ _ _ c.sums.ensures b h
