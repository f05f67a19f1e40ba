use Rattle.std.proofs.Common.{◌≡◌, ℕ, ◌<◌, [], slice_index_or, slice_get, Some}
use Rattle.chacha_base.specs.ChaCha.{bytes}
use Rattle.chacha_base.proofs.backends.kernel.write_tail.Given as goal

abbrev pub invariant-each : goal.invariant-each
invariant-each g l = (h : ℕ) → h < l.g → slice_get l.blocks h ≡ Some (bytes (slice_index_or l.made h []))
