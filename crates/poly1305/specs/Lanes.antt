-- Four numbers side by side, in limbs of 26 bits, the low limb first.
use Rattle.std.specs.Prelude.{ℕ, ◌≡◌, ◌+◌, ◌-◌, ◌*◌, ◌/◌, ◌%◌, ◌^◌, ◌<◌, slice_index}
use Rattle.poly1305.specs.Poly1305.{prime}
use Rattle.poly1305.specs.declared.lanes.Lanes.{Lanes}

-- the number in lane k
abbrev pub lane : Lanes → ℕ → ℕ
lane h k =
    slice_index h.h0 k + 2 ^ 26 * slice_index h.h1 k + 2 ^ 52 * slice_index h.h2 k
    + 2 ^ 78 * slice_index h.h3 k + 2 ^ 104 * slice_index h.h4 k

-- the limbs of lane k are below a bound
pub record AreBelow (bound : ℕ) (h : Lanes) (k : ℕ) : Type 0 where
  pub h0 : slice_index h.h0 k < bound
  pub h1 : slice_index h.h1 k < bound
  pub h2 : slice_index h.h2 k < bound
  pub h3 : slice_index h.h3 k < bound
  pub h4 : slice_index h.h4 k < bound

-- the block of a group of four that lane k takes: 0, 2, 1, 3
abbrev pub block_of_lane : ℕ → ℕ
block_of_lane k = 2 * k % 4 + k / 2

-- the power of r by which lane k comes to the sum
abbrev pub weight : ℕ → ℕ → ℕ
weight r k = r ^ (4 - block_of_lane k)

-- lanes brought to the sum
abbrev pub weighted : ℕ → (ℕ → ℕ) → ℕ
weighted r v = weight r 0 * v 0 + weight r 1 * v 1 + weight r 2 * v 2 + weight r 3 * v 3

-- the lanes hold the accumulator a: their sum is r^4 a
abbrev pub Holds : ℕ → Lanes → ℕ → Type 0
Holds r d a = weighted r (lane d) % prime ≡ r ^ 4 * a % prime
