use Rattle.std.proofs.Common.{◌≡◌, ℕ, ◌<◌, [], drop, slice_index_or}
use Rattle.chacha_base.specs.State.{state_after}
use Rattle.chacha_base.proofs.backends.kernel.write_last_rows.Given as goal

abbrev pub invariant-each : goal.invariant-each
invariant-each g l = (h : ℕ) → h < l.g → slice_index_or l.rows h [] ≡ drop 12 (state_after g.V.Variant.layout h l.state)
