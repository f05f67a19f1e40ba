use Rattle.chacha_base.specs.ChaCha.{add_states}
use Rattle.chacha_base.proofs.RowLemmas.{of_columns-same}
use Rattle.chacha_base.proofs.backends.columns.ColumnsGroup.sums.Goals as goal

pub returns : goal.returns
unfolding add_states
returns g c j h =
    of_columns-same (c.sums.ensures j h) (c.sums-2.ensures j h) (c.sums-3.ensures j h) (c.sums-4.ensures j h)
