use Rattle.std.proofs.Common.{◌≡◌, ℕ, ◌<◌, [], slice_index, slice_index_or, length}
use Rattle.chacha_base.proofs.backends.columns.column.Given as goal

abbrev pub invariant-each : goal.invariant-each
invariant-each g l = record {
  sixteen : length l.words ≡ 16;
  done : (h : ℕ) → h < l.g → slice_index l.words h ≡ slice_index (slice_index_or l.last_rows h []) l.fn.k;
}
