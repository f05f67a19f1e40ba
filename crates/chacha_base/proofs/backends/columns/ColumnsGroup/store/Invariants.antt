use Rattle.std.proofs.Common.{◌≡◌, ℕ, ◌*◌, ◌<◌, slice_get, Some}
use Rattle.chacha_base.specs.Lanes.{block_in_columns}
use Rattle.chacha_base.proofs.backends.columns.ColumnsGroup.store.Given as goal

abbrev pub invariant-each : goal.invariant-each
invariant-each g l = (h : ℕ) → h < 4 * l.g
    → slice_get l.buffers h ≡ Some (g.B.BlockBuffer.of_words (block_in_columns g.V.Vector.lane l.fn.self h))
