use Rattle.chacha_base.specs.ChaCha.{columns}
use Rattle.chacha_base.proofs.RowLemmas.{of_columns-same}
use Rattle.chacha_base.proofs.backends.columns.ColumnsGroup.column_round.Goals as goal

pub returns-clause-blocks : goal.returns-clause-blocks
unfolding columns
returns-clause-blocks g c j h =
    of_columns-same (c.quarter_round.ensures.lanes j h) (c.quarter_round-2.ensures.lanes j h)
    (c.quarter_round-3.ensures.lanes j h) (c.quarter_round-4.ensures.lanes j h)
