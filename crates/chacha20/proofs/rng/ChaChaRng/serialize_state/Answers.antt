use Rattle.std.proofs.Common.{◌∙◌, ap, arith}
use Rattle.chacha20.specs.Generator.{state_bytes}
use Rattle.chacha20.proofs.GeneratorLemmas.{generator_is}
use Rattle.chacha20.proofs.rng.ChaChaRng.serialize_state.Goals as goal

pub returns-clause-restored : goal.returns-clause-restored
returns-clause-restored g c =
    c.stored.ensures.value
    ∙ generator_is _ c.args.self.now c.get_seed.ensures c.get_stream.ensures
    (omega (arith, c.get_word_pos-word_pos.ensures.value, c.get_word_pos-word_pos.ensures.below))

pub returns-clause-value : goal.returns-clause-value
returns-clause-value g c = c.stored.ensures.stored ∙ ap state_bytes (returns-clause-restored g c)
