use Rattle.std.proofs.Common.{refl}
use Rattle.std.specs.Fmt.{digits}
use Rattle.chacha20.proofs.facts.core_texts.Goals as goal

pub returns : goal.returns
unfolding digits
returns g c = record {
  chacha8 = refl;
  chacha12 = refl;
  chacha20 = refl;
  chacha8_rng = refl;
  chacha12_rng = refl;
  chacha20_legacy = refl;
}
