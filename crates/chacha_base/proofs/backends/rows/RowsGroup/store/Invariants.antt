use Rattle.std.proofs.Common.{◌≡◌, ℕ, ◌<◌, slice_get, Some}
use Rattle.chacha_base.specs.Lanes.{block_in_rows}
use Rattle.chacha_base.proofs.backends.rows.RowsGroup.store.Given as goal

abbrev pub invariant-each : goal.invariant-each
invariant-each g l = (h : ℕ) → h < l.g
    → slice_get l.buffers h ≡ Some (g.B.BlockBuffer.of_words (block_in_rows g.V.Vector.lane l.fn.self.0 h))
