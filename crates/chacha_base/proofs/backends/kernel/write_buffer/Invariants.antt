use Rattle.std.proofs.Common.{◌≡◌, ℕ, ◌*◌, ◌<◌, length, slice_get, Some}
use Rattle.chacha_base.specs.ChaCha.{legacy}
use Rattle.chacha_base.specs.State.{next_word}
use Rattle.chacha_base.proofs.backends.kernel.write_buffer.Given as goal

abbrev pub invariant-each : goal.invariant-each
invariant-each g l = record {
  long : length l.buffer ≡ 64;
  done : (k : ℕ) → k < 16 * l.i → slice_get l.buffer k ≡ Some (next_word g.R.Rounds.COUNT legacy l.state k);
}
