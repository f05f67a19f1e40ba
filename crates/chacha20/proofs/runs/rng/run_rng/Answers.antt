use Rattle.std.proofs.Common.{◌∷◌, [], ◌+◌, take, drop, length, refl, ap, arith}
use Rattle.std.proofs.lemmas.List.{take_all, take_more_set, drop_all, drop_more}
use Rattle.std.proofs.lemmas.List.Elements.{All-get_or}
use Rattle.chacha20.specs.GeneratorRuns.{RngOutcome, rng_run, InData}
use Rattle.chacha20.proofs.RunLemmas.{behind, run-more, run-all}
use Rattle.chacha20.proofs.GeneratorLemmas.{same-Decides}
use Rattle.chacha20.proofs.runs.rng.run_rng.Goals as goal

pub calls-init : goal.calls-init
calls-init g c = refl

pub call_rng-requires : goal.call_rng-requires
call_rng-requires g c =
    let within = InData (length c.args.data.now) in
    rw c.calls.auto.data (All-get_or within c.args.calls.now c.calls.i _ c.calls-test.true c.requires.ranges)

pub calls-preserved : goal.calls-preserved
calls-preserved g c =
    let n = g.R.Rounds.COUNT in
    let i = c.calls.i in
    let left = drop (i + 1) c.args.calls.now in
    run-more (rng_run n c.calls.rng c.calls.data) (rng_run n c.call_rng.new.rng c.call_rng.new.data)
    (take i c.calls.answers) c.calls.invariant (drop_more c.args.calls.now i _ (omega arith))
    (ap (λ (o : RngOutcome). behind (o.answer ∷ []) (rng_run n o.rng o.bytes left)) c.call_rng.ensures)
    (take_more_set c.calls.answers i c.call_rng.result (omega arith))

pub returns : goal.returns
returns g c =
    let n = g.R.Rounds.COUNT in
    let run =
    run-all (rng_run n c.calls.rng c.calls.data) (take c.calls.i c.calls.answers) refl c.calls.invariant
    (drop_all c.calls.i c.args.calls.now (omega arith)) (take_all c.calls.i c.calls.answers (omega arith)) in
    record { run = run; equality = λ other equal. rw (← (same-Decides c.args.rng.now other).0 equal) run }
