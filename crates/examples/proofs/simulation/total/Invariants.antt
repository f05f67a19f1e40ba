use Rattle.std.proofs.Common.{◌≡◌, ℕ, ◌+◌, ◌*◌, ◌/◌, ◌^◌, ◌≤◌}
use Rattle.std.specs.List.{sum_by}
use Rattle.chacha20.specs.Generator.{next_u64, repeated}
use Rattle.examples.proofs.simulation.total.Given as goal

abbrev pub invariant-each : goal.invariant-each
invariant-each g l =
    let draws = repeated (next_u64 g.R.Rounds.COUNT) l.i l.fn.rng in
    record {
      small : l.sum ≤ 6 * l.i;
      summed : l.sum ≡ sum_by (λ (word : ℕ). word * 6 / 2 ^ 64 + 1) draws.0;
      moved : l.rng ≡ draws.1;
    }
