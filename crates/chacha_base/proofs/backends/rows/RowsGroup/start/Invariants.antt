use Rattle.std.proofs.Common.{◌≡◌, ℕ, ◌<◌, [], slice_index, slice_index_or, length}
use Rattle.chacha_base.specs.Lanes.{quad}
use Rattle.chacha_base.proofs.backends.rows.RowsGroup.start.Given as goal

abbrev pub invariant-each : goal.invariant-each
invariant-each g l = record {
  sixteen : length l.d ≡ 16;
  done : (h : ℕ) → h < l.g → quad (slice_index l.d) h ≡ quad (slice_index (slice_index_or l.last_rows h [])) 0;
}
