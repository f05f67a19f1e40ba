use Rattle.std.proofs.Common.{◌≡◌, ℕ, ◌*◌, ◌/◌, ◌^◌, ◌<◌, length, take, map}
use Rattle.std.specs.Prelude.{All}
use Rattle.chacha20.specs.Generator.{next_u64, repeated}
use Rattle.examples.proofs.simulation.fill_below.Given as goal

abbrev pub invariant-each : goal.invariant-each
invariant-each g l =
    let draws = repeated (next_u64 g.R.Rounds.COUNT) l.i l.fn.rng in
    record {
      same : length l.numbers ≡ length l.initial.numbers;
      below : All (λ (number : ℕ). number < l.bound) (take l.i l.numbers);
      drawn : take l.i l.numbers ≡ map (λ (word : ℕ). word * l.bound / 2 ^ 64) draws.0;
      moved : l.rng ≡ draws.1;
    }
