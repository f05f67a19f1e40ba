use Rattle.std.proofs.Common.{refl}
use Rattle.chacha20.proofs.facts.ciphers.Goals as goal

-- answered for speed
pub returns : goal.returns
returns c = record {
  chacha8 = refl;
  chacha12 = refl;
  chacha20 = refl;
  chacha20_legacy = refl;
  xchacha8 = refl;
  xchacha12 = refl;
  xchacha20 = refl;
}
