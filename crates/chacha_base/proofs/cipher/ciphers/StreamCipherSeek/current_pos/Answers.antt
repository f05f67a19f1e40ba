use Rattle.chacha_base.proofs.cipher.ciphers.StreamCipherSeek.current_pos.Goals as goal

-- answered for speed
pub returns : goal.returns
returns g c = rw (c.unwrap.ensures) at c.try_current_pos.ensures.value
