use Rattle.chacha20.proofs.chacha_core.engine.gen_tail.Goals as goal

pub returns-clause-steps : goal.returns-clause-steps
returns-clause-steps g c = c.gen_tail_blocks.ensures.steps
