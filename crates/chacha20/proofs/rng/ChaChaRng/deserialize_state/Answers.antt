use Rattle.std.proofs.Common.{ap, arith, ◌∙◌}
use Rattle.chacha20.specs.Generator.{state_bytes}
use Rattle.chacha20.proofs.GeneratorLemmas.{generator_is}
use Rattle.chacha20.proofs.StateBytesLemmas.{state_bytes-of_state_bytes}
use Rattle.chacha20.proofs.rng.ChaChaRng.deserialize_state.Goals as goal

pub returns-clause-value : goal.returns-clause-value
returns-clause-value g c =
    rw (c.set_stream.ensures, c.from_seed-rng.ensures) at c.set_word_pos.ensures.value
    ∙ generator_is _ _ c.seed_in.ensures c.stream_in.ensures (omega (arith, c.word_pos_in.ensures.value))

pub returns-clause-stored : goal.returns-clause-stored
returns-clause-stored g c =
    ap state_bytes (returns-clause-value g c) ∙ state_bytes-of_state_bytes _ c.told-state c.fits-state
