use Rattle.std.proofs.Common.{rules, arith}
use Rattle.chacha20.proofs.GeneratorLemmas.{Starts, unread-start, generator_of-start}
use Rattle.chacha20.proofs.rng.ChaChaRng.from_seed.Goals as goal

pub invariant_of-result : goal.invariant_of-result
invariant_of-result g c =
    let is : Starts c.from_seed.result c.args.seed 0 =
    record { long = search rules; fits = λ i. search rules; below = omega arith; state = c.from_seed.ensures } in
    unread-start is g.R.Rounds.COUNT _

pub returns : goal.returns
returns g c =
    let is : Starts c.from_seed.result c.args.seed 0 =
    record { long = search rules; fits = λ i. search rules; below = omega arith; state = c.from_seed.ensures } in
    generator_of-start is
