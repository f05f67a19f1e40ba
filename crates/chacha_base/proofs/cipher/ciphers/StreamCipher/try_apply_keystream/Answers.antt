use Rattle.std.proofs.lemmas.Grind.{common_steps}
use Rattle.std.proofs.Common.{arith}
use Rattle.chacha_base.proofs.cipher.ciphers.StreamCipher.try_apply_keystream.Goals as goal

-- answered for speed
pub returns-clause-accepted : goal.returns-clause-accepted
returns-clause-accepted g c = c.try_apply_keystream_counted.ensures.accepted

pub returns-clause-refused : goal.returns-clause-refused
returns-clause-refused g c = grind (arith, common_steps)
