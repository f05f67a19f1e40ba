use Rattle.chacha20.proofs.chacha_core.ChaChaCore.get_block_pos.Goals as goal

pub returns-clause-value : goal.returns-clause-value
returns-clause-value g c = rw (← c.self.view_is) c.counter.ensures.value
