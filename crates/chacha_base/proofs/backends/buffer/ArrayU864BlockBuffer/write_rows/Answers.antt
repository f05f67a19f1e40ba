use Rattle.std.proofs.Common.{ap₂, ◌++◌}
use Rattle.chacha_base.proofs.backends.buffer.ArrayU864BlockBuffer.write_rows.Goals as goal

pub returns : goal.returns
returns c =
    ap₂ ◌++◌ (ap₂ ◌++◌ c.write_row.ensures c.write_row-2.ensures)
    (ap₂ ◌++◌ c.write_row-3.ensures c.write_row-4.ensures)
