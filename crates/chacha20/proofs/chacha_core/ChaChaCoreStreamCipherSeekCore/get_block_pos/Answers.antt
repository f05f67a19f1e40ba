use Rattle.chacha20.proofs.chacha_core.ChaChaCoreStreamCipherSeekCore.get_block_pos.Goals as goal

pub returns : goal.returns
returns g c = c.get_block_pos.ensures.value
