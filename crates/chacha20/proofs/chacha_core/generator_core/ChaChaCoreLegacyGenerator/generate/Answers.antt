use Rattle.chacha20.proofs.chacha_core.generator_core.ChaChaCoreLegacyGenerator.generate.Goals as goal

pub returns-clause-output : goal.returns-clause-output
returns-clause-output g c = rw (← c.self.view_is) c.gen_ks_blocks.ensures.words
