use Rattle.std.proofs.Common.{◌≡◌, ℕ, ◌<◌, ◌≤◌, length, slice_index, bit_xor}
use Rattle.secretstream.proofs.state.combined.Given as goal

abbrev pub invariant-loop-i : goal.invariant-loop-i
invariant-loop-i l = record {
  long : length l.bytes ≡ 8;
  done : (k : ℕ) → k < l.i → slice_index l.bytes k ≡ bit_xor (slice_index l.inner k) (slice_index l.mac k);
  rest : (k : ℕ) → l.i ≤ k → slice_index l.bytes k ≡ slice_index l.inner k;
}
