use Rattle.chacha20.proofs.chacha_core.generator_core.ChaChaCoreLegacySeedableRng.seed_from_u64.Goals as goal

pub returns : goal.returns
returns g c = rw c.from_u64.ensures.value at c.from_seed.ensures
