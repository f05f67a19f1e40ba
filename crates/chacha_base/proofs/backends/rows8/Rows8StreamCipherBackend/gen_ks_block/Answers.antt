use Rattle.chacha_base.proofs.backends.rows8.Rows8StreamCipherBackend.gen_ks_block.Goals as goal

-- answered for speed
pub returns-clause-block : goal.returns-clause-block
returns-clause-block g c = c.write_one.ensures.block

pub returns-clause-state : goal.returns-clause-state
returns-clause-state g c = c.write_one.ensures.state
