use Rattle.std.proofs.Common.{◌≡◌, ℕ, ◌<◌, ◌≤◌, length, slice_index}
use Rattle.chacha_base.specs.ChaCha.{add}
use Rattle.chacha_base.proofs.backends.soft.add_words.Given as goal

abbrev pub invariant-loop-i : goal.invariant-loop-i
invariant-loop-i l = record {
  sixteen : length l.state ≡ 16;
  done : (k : ℕ) → k < l.i → slice_index l.state k ≡ add (slice_index l.initial.state k) (slice_index l.start k);
  rest : (k : ℕ) → l.i ≤ k → slice_index l.state k ≡ slice_index l.initial.state k;
}
