use Rattle.std.proofs.Common.{refl}
use Rattle.chacha20.proofs.chacha_core.ChaChaCore.zeroize.Goals as goal

pub returns : goal.returns
returns g c = refl
