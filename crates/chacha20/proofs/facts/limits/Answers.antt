use Rattle.std.proofs.Common.{refl}
use Rattle.chacha20.proofs.facts.limits.Goals as goal

-- answered for speed
pub returns : goal.returns
returns c = record {
  chacha8 = refl;
  chacha12 = refl;
  chacha20 = refl;
  chacha20_legacy = refl;
  xchacha8 = refl;
  xchacha12 = refl;
  xchacha20 = refl;
  chacha8_nonce = refl;
  chacha12_nonce = refl;
  chacha20_nonce = refl;
  chacha20_legacy_nonce = refl;
  xchacha8_nonce = refl;
  xchacha12_nonce = refl;
  xchacha20_nonce = refl;
}
