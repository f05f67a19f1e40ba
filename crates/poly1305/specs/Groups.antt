-- The powers of r that lanes are multiplied by.
use Rattle.std.specs.Prelude.{ℕ, ◌≡◌, ◌%◌, ◌^◌, ◌<◌}
use Rattle.poly1305.specs.Poly1305.{prime}
use Rattle.poly1305.specs.Lanes.{lane, weight}
use Rattle.poly1305.specs.declared.factors.Factors.{Factors}

-- modulo the prime, the factors are r^4, r^8, and the power by which each lane comes to the sum
pub record ArePowers (r : ℕ) (f : Factors) : Type 0 where
  pub fourth : (k : ℕ) → k < 4 → lane f.fourth k % prime ≡ r ^ 4 % prime
  pub eighth : (k : ℕ) → k < 4 → lane f.eighth k % prime ≡ r ^ 8 % prime
  pub last : (k : ℕ) → k < 4 → lane f.last k % prime ≡ weight r k % prime
