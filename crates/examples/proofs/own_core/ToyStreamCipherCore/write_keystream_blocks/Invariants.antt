use Rattle.std.proofs.Common.{◌≡◌, ℕ, ◌<◌, ◌+◌, ◌*◌, ◌%◌, ◌^◌, map}
use Rattle.std.specs.Prelude.{slice_get, Some}
use Rattle.std.specs.List.{range_with_len}
use Rattle.examples.proofs.own_core.ToyStreamCipherCore.write_keystream_blocks.Given as goal

abbrev pub invariant-loop-i : goal.invariant-loop-i
invariant-loop-i l = record {
  seed : l.self.seed ≡ l.fn.self.seed;
  counter : l.self.counter ≡ (l.fn.self.counter + l.i) % 2 ^ 32;
  done : (k : ℕ) → k < l.i → slice_get l.blocks k
      ≡ Some (map (λ j. (l.fn.self.seed + 100 * ((l.fn.self.counter + k) % 2 ^ 32) + j) % 256) (range_with_len 0 64));
}
