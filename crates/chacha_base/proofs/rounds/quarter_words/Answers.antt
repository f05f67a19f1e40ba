use Rattle.std.proofs.Common.{refl}
use Rattle.chacha_base.specs.ChaCha.{quarter}
use Rattle.chacha_base.proofs.rounds.quarter_words.Goals as goal

-- answered for speed
pub returns : goal.returns
unfolding quarter
returns c = rw (c.rotated-b2.ensures, c.rotated-d2.ensures, c.rotated-b1.ensures, c.rotated-d1.ensures) refl
