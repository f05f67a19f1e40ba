use Rattle.std.proofs.Common.{◌≡◌, ℕ, ◌+◌, ◌*◌, ◌/◌, ◌^◌, ◌<◌, [], ◌∷◌, ◌++◌, take, length-set, arith, sym, subst, ◌∙◌}
use Rattle.std.specs.Prelude.{All, slice_set}
use Rattle.std.proofs.lemmas.List.{take_more_set}
use Rattle.std.proofs.lemmas.List.Elements.{All-push}
use Rattle.chacha20.specs.Generator.{next_u64}
use Rattle.chacha20.proofs.RepeatedLemmas.{reads-mapped}
use Rattle.examples.proofs.simulation.fill_below.Goals as goal

pub each-preserved : goal.each-preserved
each-preserved g c =
    let bound = c.args.bound in
    let numbers = c.each.numbers in
    let i = c.each.i in
    let number = c.below.result in
    let before = c.each.invariant in
    let more = reads-mapped (λ word. word * bound / 2 ^ 64) (next_u64 g.R.Rounds.COUNT) i c.args.rng.now numbers
    (omega arith) before.moved before.drawn c.below.ensures.value c.below.ensures.moved in
    let written : take (i + 1) (slice_set numbers i number) ≡ take i numbers ++ number ∷ [] =
    take_more_set numbers i number (omega arith) in
    record {
      same = length-set numbers i number ∙ before.same;
      below = subst (All (λ (n : ℕ). n < bound)) (sym written)
          (All-push (λ (n : ℕ). n < bound) (take i numbers) number before.below c.below.ensures.below);
      drawn = more.0;
      moved = more.1;
    }
