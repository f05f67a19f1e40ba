-- Rotations of words, by the operations of the language. The proof of `rotated`, and `LaneLemmas`, cite these. Read
-- `ChaCha` first.
use Rattle.std.proofs.Common.{◌≡◌, ℕ, ◌+◌, ◌-◌, ◌*◌, ◌/◌, ◌%◌, ◌^◌, ◌<◌, arith, sym, subst, ◌∙◌, pow_pos, mul-div_cancel, mod-eq_of_lt, w32}
use Rattle.std.proofs.lemmas.Nat.{mod-pow-add, or_shifted, shr_below}
use Rattle.std.proofs.Math.Nat.{mul-mod_left}
use Rattle.std.specs.Int.{rotate_left}
use Rattle.chacha_base.specs.ChaCha.{rotl}

-- a rotation by shifts and an or is one by products and quotients
pub rotate_left_is : (x k : ℕ) → x < 2 ^ 32 → 0 < k → k < 32 → rotate_left w32 x k ≡ rotl x k
rotate_left_is x k word some most =
    let j = 32 - k in
    let whole : j + k ≡ 32 = omega arith in
    let turned : k + j ≡ 32 = omega arith in
    let by : k % 32 ≡ k = mod-eq_of_lt most in
    let back : (32 - k) % 32 ≡ 32 - k = mod-eq_of_lt (omega arith) in
    let quotient : x * 2 ^ k / 2 ^ k ≡ x = mul-div_cancel x (pow_pos k) in
    let rest : x * 2 ^ k % 2 ^ k ≡ 0 = mul-mod_left x (2 ^ k) in
    let up : x * 2 ^ k % 2 ^ 32 ≡ x % 2 ^ j * 2 ^ k =
    subst (λ n. x * 2 ^ k % 2 ^ n ≡ x % 2 ^ j * 2 ^ k) whole
    (mod-pow-add (x * 2 ^ k) j k ∙ rw (quotient, rest) (omega arith)) in
    let low : x / 2 ^ j < 2 ^ k = shr_below x k j (subst (λ n. x < 2 ^ n) (sym turned) word) in
    rw (by, back, up) (or_shifted (x % 2 ^ j) k (x / 2 ^ j) low)
