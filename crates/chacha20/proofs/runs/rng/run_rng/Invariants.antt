use Rattle.std.proofs.Common.{◌≡◌, take, drop}
use Rattle.chacha20.specs.GeneratorRuns.{rng_run}
use Rattle.chacha20.proofs.RunLemmas.{behind}
use Rattle.chacha20.proofs.runs.rng.run_rng.Given as goal

abbrev pub invariant-calls : goal.invariant-calls
invariant-calls g l =
    let n = g.R.Rounds.COUNT in
    rng_run n l.fn.rng l.fn.«data» l.calls ≡ behind (take l.i l.answers) (rng_run n l.rng l.«data» (drop l.i l.calls))
