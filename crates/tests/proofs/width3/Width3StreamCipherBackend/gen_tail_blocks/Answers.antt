use Rattle.tests.proofs.width3.Width3StreamCipherBackend.gen_tail_blocks.Goals as goal

-- answered for speed
pub returns-clause-state : goal.returns-clause-state
returns-clause-state g c = c.gen_single_blocks.ensures.state
