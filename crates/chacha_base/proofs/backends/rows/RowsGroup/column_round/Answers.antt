use Rattle.chacha_base.proofs.RowLemmas.{columns-of-lanes}
use Rattle.chacha_base.proofs.backends.rows.RowsGroup.column_round.Goals as goal

pub returns-clause-blocks : goal.returns-clause-blocks
returns-clause-blocks g c b h =
    columns-of-lanes g.V.Vector.QUADS g.V.Vector.lane _ _ c.quarter_round.ensures.lanes b h
