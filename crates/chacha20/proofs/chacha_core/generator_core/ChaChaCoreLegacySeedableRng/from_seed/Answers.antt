use Rattle.std.proofs.Common.{◌∙◌, append_assoc}
use Rattle.chacha20.proofs.chacha_core.generator_core.ChaChaCoreLegacySeedableRng.from_seed.Goals as goal

pub returns : goal.returns
returns g c = c.start_state.ensures ∙ simp append_assoc
