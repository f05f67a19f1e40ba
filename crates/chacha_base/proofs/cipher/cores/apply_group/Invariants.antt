use Rattle.std.proofs.Common.{◌≡◌, ℕ, ◌≤◌, [], slice_index, slice_index_or}
use Rattle.chacha_base.specs.ChaCha.{xor_stream}
use Rattle.chacha_base.proofs.ListLemmas.{Written}
use Rattle.chacha_base.proofs.cipher.cores.apply_group.Given as goal

abbrev pub invariant-loop-i : goal.invariant-loop-i
invariant-loop-i g l = record {
  done : Written (λ j. xor_stream (slice_index (slice_index_or l.made j [])) 0 (slice_index_or l.fn.blocks j []))
      l.i l.blocks;
  rest : (j : ℕ) → l.i ≤ j → slice_index_or l.blocks j [] ≡ slice_index_or l.fn.blocks j [];
}
