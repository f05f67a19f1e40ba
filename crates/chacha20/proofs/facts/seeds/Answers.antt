use Rattle.std.proofs.Common.{refl}
use Rattle.chacha20.proofs.facts.seeds.Goals as goal

-- answered for speed
pub returns : goal.returns
returns g c = record { rng = refl; rng_number = refl; core = refl; core_number = refl }
