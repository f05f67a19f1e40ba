use Rattle.std.proofs.Common.{w8, Fits, ◌≡◌, ℕ, ◌+◌, ◌-◌, ◌*◌, ◌/◌, ◌%◌, ◌^◌, ◌≤◌, ◌<◌, List, [], ◌∷◌, ◌++◌, length, take, drop, get_or, ◌∙◌, sym, ap, refl, arith, length-drop}
use Rattle.std.specs.Simd.Lanes.{Each1, number_l, chunk}
use Rattle.std.proofs.Math.Nat.{pow-suc}
use Rattle.std.proofs.Math.Seq.{take-add}
use Rattle.std.proofs.lemmas.List.{drop-drop, get_or-drop}
use Rattle.std.proofs.lemmas.Simd.{chunk-fits, length-chunk}
use Rattle.poly1305.specs.Poly1305.{number, block}
use Rattle.poly1305.proofs.BlockLemmas.{number-append, number-whole}
use Rattle.poly1305.proofs.AccumulatorLemmas.{take_16, block_behind}
use Rattle.poly1305.proofs.LaneLemmas.{below_four}
use Rattle.poly1305.proofs.lanes.load.Goals as goal

-- std's number of a list of bytes
number-lanes : (bs : List ℕ) → number_l 256 bs ≡ number bs
unfolding number
number-lanes [] = refl
number-lanes (b ∷ bs) = omega (arith, number-lanes bs)

number-lt : (bs : List ℕ) → Each1 (Fits w8) bs → number bs < 256 ^ length bs
unfolding number
number-lt [] fits = omega arith
number-lt (b ∷ bs) fits = let byte = fits.0 in rw (pow-suc) (omega (arith, number-lt bs fits.1))

-- the two blocks of 32 bytes, as the lanes of a vector have them
record AreBlocks (n a b : ℕ) : Type 0 where
  first : n % 2 ^ 64 + 2 ^ 64 * (n / 2 ^ 64 % 2 ^ 64) + 2 ^ 128 ≡ a
  second : n / 2 ^ 64 / 2 ^ 64 % 2 ^ 64 + 2 ^ 64 * (n / 2 ^ 64 / 2 ^ 64 / 2 ^ 64 % 2 ^ 64) + 2 ^ 128 ≡ b

blocks_of_sum : (n a b : ℕ) → a < 2 ^ 128 → b < 2 ^ 128 → n ≡ a + 2 ^ 128 * b → AreBlocks n (a + 2 ^ 128) (b + 2 ^ 128)
blocks_of_sum n a b la lb e = record { first = omega arith; second = omega arith }

-- a block of 16 bytes
block_is : (xs : List ℕ) (i : ℕ) → length (chunk (16 * i) 16 xs) ≡ 16
    → block xs i ≡ number (chunk (16 * i) 16 xs) + 2 ^ 128
block_is xs i long = ap (λ bs. number (bs ++ 1 ∷ [])) (take_16 xs i) ∙ number-whole (chunk (16 * i) 16 xs) long

two_blocks : (xs : List ℕ) → 32 ≤ length xs → ((k : ℕ) → Fits w8 (get_or xs k 0))
    → AreBlocks (number_l 256 (take 32 xs)) (block xs 0) (block xs 1)
two_blocks xs room fits =
    let long0 : length (take 16 xs) ≡ 16 = length-chunk 0 16 xs (omega arith) in
    let long1 : length (chunk 16 16 xs) ≡ 16 = length-chunk 16 16 xs (omega arith) in
    let below0 : number (take 16 xs) < 2 ^ 128 = rw long0 at (number-lt (take 16 xs) (chunk-fits w8 0 16 xs fits)) in
    let below1 : number (chunk 16 16 xs) < 2 ^ 128 =
    rw long1 at (number-lt (chunk 16 16 xs) (chunk-fits w8 16 16 xs fits)) in
    let whole : number_l 256 (take 32 xs) ≡ number (take 16 xs) + 2 ^ 128 * number (chunk 16 16 xs) =
    number-lanes (take 32 xs) ∙ ap number (take-add 16 16 xs) ∙ number-append (take 16 xs) (chunk 16 16 xs)
    ∙ ap (λ n. number (take 16 xs) + 256 ^ n * number (chunk 16 16 xs)) long0 in
    rw (block_is xs 0 long0, block_is xs 1 long1)
    (blocks_of_sum (number_l 256 (take 32 xs)) (number (take 16 xs)) (number (chunk 16 16 xs)) below0 below1 whole)

fits_behind : (xs : List ℕ) (at : ℕ) → ((k : ℕ) → Fits w8 (get_or xs k 0)) → (k : ℕ) → Fits w8 (get_or (drop at xs) k 0)
fits_behind xs at fits k = rw (get_or-drop at xs k 0) (fits (at + k))

pub returns-clause-value : goal.returns-clause-value
returns-clause-value c =
    let at = c.args.at in
    let bytes : List ℕ = c.args.bytes.now in
    let group : List ℕ = drop at bytes in
    let half : List ℕ = drop 32 group in
    let carry_limb : half ≡ drop (at + 32) bytes = drop-drop 32 at bytes in
    let fits = fits_behind bytes at c.type_inv.bytes in
    let long : length group ≡ length bytes - at = length-drop at bytes in
    let x = two_blocks group (omega arith) fits in
    let y = rw carry_limb at (two_blocks half (omega (arith, length-drop 32 group)) (fits_behind group 32 fits)) in
    let z0 : block (drop (at + 32) bytes) 0 ≡ block group 2 = rw (← carry_limb) (sym (block_behind group 2 0)) in
    let z1 : block (drop (at + 32) bytes) 1 ≡ block group 3 = rw (← carry_limb) (sym (block_behind group 2 1)) in
    below_four _
    (c.limbs.ensures.value 0 (omega arith) ∙ x.first)
    (c.limbs.ensures.value 1 (omega arith) ∙ y.first ∙ z0)
    (c.limbs.ensures.value 2 (omega arith) ∙ x.second)
    (c.limbs.ensures.value 3 (omega arith) ∙ y.second ∙ z1)
