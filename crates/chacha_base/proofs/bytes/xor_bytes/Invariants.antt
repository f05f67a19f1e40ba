use Rattle.std.proofs.Common.{◌≡◌, ℕ, ◌<◌, ◌≤◌, slice_index, bit_xor}
use Rattle.chacha_base.proofs.bytes.xor_bytes.Given as goal

abbrev pub invariant-loop-i : goal.invariant-loop-i
invariant-loop-i l = record {
  done : (k : ℕ) → k < l.i → slice_index l.output k ≡ bit_xor (slice_index l.initial.output k) (slice_index l.other k);
  rest : (k : ℕ) → l.i ≤ k → slice_index l.output k ≡ slice_index l.initial.output k;
}
