use Rattle.std.proofs.Common.{arith}
use Rattle.chacha_base.proofs.cipher.seek_num.U32SeekNum.to_position.Goals as goal

-- answered for speed
pub returns-clause-below : goal.returns-clause-below
returns-clause-below c = omega arith
