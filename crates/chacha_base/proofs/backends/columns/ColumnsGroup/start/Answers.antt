use Rattle.chacha_base.proofs.RowLemmas.{of_columns-same, column_of-same}
use Rattle.chacha_base.proofs.backends.columns.ColumnsGroup.start.Goals as goal

-- answered for speed
pub returns : goal.returns
returns g c j h =
    of_columns-same
    (column_of-same (c.column.ensures.a j h) (c.column.ensures.b j h)
    (c.column.ensures.c j h) (c.column.ensures.d j h))
    (column_of-same (c.column-2.ensures.a j h) (c.column-2.ensures.b j h)
    (c.column-2.ensures.c j h) (c.column-2.ensures.d j h))
    (column_of-same (c.column-3.ensures.a j h) (c.column-3.ensures.b j h)
    (c.column-3.ensures.c j h) (c.column-3.ensures.d j h))
    (column_of-same (c.column-4.ensures.a j h) (c.column-4.ensures.b j h)
    (c.column-4.ensures.c j h) (c.column-4.ensures.d j h))
