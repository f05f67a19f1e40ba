use Rattle.std.proofs.Common.{ℕ, ◌+◌, ◌*◌, ◌/◌, ◌^◌, arith, refl}
use Rattle.chacha20.specs.Generator.{next_u64}
use Rattle.chacha20.proofs.RepeatedLemmas.{reads-folded}
use Rattle.examples.proofs.simulation.total.Goals as goal

pub each-preserved : goal.each-preserved
each-preserved g c =
    let face : ℕ → ℕ = λ word. word * 6 / 2 ^ 64 + 1 in
    let before = c.each.invariant in
    let more = reads-folded (λ sum word. sum + face word) 0 (next_u64 g.R.Rounds.COUNT) c.each.i c.args.rng.now
    before.moved before.summed refl c.below.ensures.moved in
    record {
      small = omega (arith, before.small, c.below.ensures.below);
      summed = rw (← c.below.ensures.value) at more.0;
      moved = more.1;
    }

pub overflow_add-sum : goal.overflow_add-sum
overflow_add-sum g c = omega (arith, c.each.invariant.small, c.below.ensures.below)
