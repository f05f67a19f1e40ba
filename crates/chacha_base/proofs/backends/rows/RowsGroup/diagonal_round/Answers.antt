use Rattle.std.proofs.Common.{◌∙◌, ap}
use Rattle.chacha_base.specs.ChaCha.{columns}
use Rattle.chacha_base.specs.Lanes.{undiagonalized}
use Rattle.chacha_base.proofs.RowLemmas.{columns-of-lanes, columns-diagonalized}
use Rattle.chacha_base.proofs.backends.rows.RowsGroup.diagonal_round.Goals as goal

pub returns-clause-blocks : goal.returns-clause-blocks
returns-clause-blocks g c b h =
    c.rows_rotated.ensures b h
    ∙ ap (undiagonalized g.row.FIXED_ROW)
    (columns-of-lanes g.V.Vector.QUADS g.V.Vector.lane _ _ c.quarter_round-mixed.ensures.lanes b h
    ∙ ap columns (c.rows_rotated-diagonalized.ensures b h))
    ∙ columns-diagonalized g.row.FIXED_ROW _
