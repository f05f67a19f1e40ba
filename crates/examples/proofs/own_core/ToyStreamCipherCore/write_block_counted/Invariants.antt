use Rattle.std.proofs.Common.{◌≡◌, ℕ, ◌<◌, ◌+◌, ◌*◌, ◌%◌, length, slice_index}
use Rattle.examples.proofs.own_core.ToyStreamCipherCore.write_block_counted.Given as goal

abbrev pub invariant-loop-i : goal.invariant-loop-i
invariant-loop-i l = record {
  whole : length l.block ≡ 64;
  done : (k : ℕ) → k < l.i → slice_index l.block k ≡ (l.self.seed + 100 * l.self.counter + k) % 256;
}
