use Rattle.std.proofs.Common.{◌≡◌, ℕ, ◌<◌, ◌≤◌, ◌+◌, ◌*◌, ◌/◌, ◌%◌, ◌^◌, slice_index, bit_xor}
use Rattle.examples.proofs.own_core.ToyStreamCipherCore.apply_blocks_counted.Given as goal

abbrev pub invariant-loop-i : goal.invariant-loop-i
invariant-loop-i l = record {
  done : (k : ℕ) → k < l.i → slice_index l.data k
      ≡ bit_xor (slice_index l.initial.data k) ((l.self.seed + 100 *
      ((l.self.counter + k / 64) % 2 ^ 32) + k % 64) % 256);
  rest : (k : ℕ) → l.i ≤ k → slice_index l.data k ≡ slice_index l.initial.data k;
}
