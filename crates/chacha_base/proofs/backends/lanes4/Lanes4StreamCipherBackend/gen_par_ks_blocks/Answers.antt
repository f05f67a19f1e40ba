use Rattle.std.proofs.Common.{arith}
use Rattle.chacha_base.proofs.backends.lanes4.Lanes4StreamCipherBackend.gen_par_ks_blocks.Goals as goal

-- without a lemma, so that a wrong count is refused soon
pub returns-clause-steps : goal.returns-clause-steps
returns-clause-steps g c = grind arith
