use Rattle.std.proofs.Common.{slice_index, arith}
use Rattle.chacha_base.proofs.RowLemmas.{quad-written, quad-elsewhere}
use Rattle.chacha_base.proofs.backends.rows.set_row.Goals as goal

pub returns-clause-here : goal.returns-clause-here
returns-clause-here c =
    let word = slice_index c.args.values.now in
    quad-written c.args.words.now c.args.g (word 0, word 1, word 2, word 3) (omega arith)

pub returns-clause-elsewhere : goal.returns-clause-elsewhere
returns-clause-elsewhere c h less apart =
    let word = slice_index c.args.values.now in
    quad-elsewhere c.args.words.now c.args.g (word 0, word 1, word 2, word 3) h apart
