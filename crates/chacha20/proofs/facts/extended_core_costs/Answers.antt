use Rattle.std.proofs.Common.{refl}
use Rattle.chacha20.proofs.facts.extended_core_costs.Goals as goal

-- answered for speed
pub returns : goal.returns
returns g c = record { par = refl; one = refl; first = refl; cipher = refl }
