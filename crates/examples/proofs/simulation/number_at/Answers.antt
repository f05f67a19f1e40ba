use Rattle.std.proofs.Common.{◌*◌, ◌/◌, ◌^◌, sym, ap, ap₂, ◌∙◌}
use Rattle.chacha20.specs.Generator.{next_u64, of_seed, at_word_pos}
use Rattle.chacha20.proofs.RepeatedLemmas.{reads-nth, reads-next_u64_of_seed}
use Rattle.examples.proofs.simulation.number_at.Goals as goal

pub returns : goal.returns
returns c m inside =
    let seed = c.args.seed in
    let index = c.args.index in
    let moved = c.set_word_pos.ensures.value
    ∙ ap₂ (λ rng n. at_word_pos rng (2 * n)) c.from_seed-rng.ensures c.from.ensures
    ∙ sym (reads-next_u64_of_seed 10 index seed) in
    c.below.ensures.value
    ∙ ap (λ word. word * c.args.bound / 2 ^ 64)
    (ap (λ rng. (next_u64 10 rng).0) moved ∙ sym (reads-nth (next_u64 10) index m (of_seed seed) inside))
