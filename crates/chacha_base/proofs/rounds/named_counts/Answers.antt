use Rattle.std.proofs.Common.{refl}
use Rattle.chacha_base.proofs.rounds.named_counts.Goals as goal

-- answered for speed
pub returns : goal.returns
returns c = record { r8 = refl; r12 = refl; r20 = refl }
