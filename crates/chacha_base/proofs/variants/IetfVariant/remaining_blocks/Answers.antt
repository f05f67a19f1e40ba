use Rattle.std.proofs.Common.{arith}
use Rattle.std.proofs.lemmas.Grind.{common_steps}
use Rattle.chacha_base.proofs.variants.IetfVariant.remaining_blocks.Goals as goal

-- answered for speed
pub returns : goal.returns
returns c = grind (arith, common_steps)
