-- Groups of four blocks, each block in its own lane, modulo the prime.
use Rattle.std.proofs.Common.{◌≡◌, ℕ, zero, suc, ◌+◌, ◌*◌, ◌%◌, ◌^◌, ◌<◌, ◌≤◌, List, [], length, take, drop, get_or, ◌∙◌, sym, ap, ap₂, refl, arith, length-take, length-drop}
use Rattle.std.proofs.Math.Nat.{add-mod, pow-zero, pow-succ'}
use Rattle.std.proofs.lemmas.Nat.{mul-mod, mul-mod_second, pow-add}
use Rattle.std.proofs.lemmas.List.{drop-drop, take-append-drop}
use Rattle.std.specs.Simd.{first_chunks}
use Rattle.poly1305.specs.Poly1305.{prime, block, accumulator}
use Rattle.poly1305.specs.Lanes.{block_of_lane, weight, weighted}
use Rattle.poly1305.proofs.AccumulatorLemmas.{accumulator_behind, accumulator_front}
use Rattle.poly1305.proofs.ProductLemmas.{summand_reduced}

pub mod_sum : (a b c d : ℕ) → a % prime ≡ c % prime → b % prime ≡ d % prime → (a + b) % prime ≡ (c + d) % prime
mod_sum a b c d p q = add-mod a b prime ∙ ap₂ (λ x y. (x + y) % prime) p q ∙ sym (add-mod c d prime)

pub mod_product : (a b c d : ℕ) → a % prime ≡ c % prime → b % prime ≡ d % prime → (a * b) % prime ≡ (c * d) % prime
mod_product a b c d p q = mul-mod a b prime ∙ ap₂ (λ x y. (x * y) % prime) p q ∙ sym (mul-mod c d prime)

-- lanes that are the same modulo the prime
pub weighted_same : (r : ℕ) (v w : ℕ → ℕ) → ((k : ℕ) → k < 4 → v k % prime ≡ w k % prime)
    → weighted r v % prime ≡ weighted r w % prime
weighted_same r v w same =
    let one = λ (k : ℕ) (h : k < 4). mod_product (weight r k) (v k) (weight r k) (w k) refl (same k h) in
    mod_sum (weight r 0 * v 0 + weight r 1 * v 1 + weight r 2 * v 2) (weight r 3 * v 3)
    (weight r 0 * w 0 + weight r 1 * w 1 + weight r 2 * w 2) (weight r 3 * w 3)
    (mod_sum (weight r 0 * v 0 + weight r 1 * v 1) (weight r 2 * v 2)
    (weight r 0 * w 0 + weight r 1 * w 1) (weight r 2 * w 2)
    (mod_sum (weight r 0 * v 0) (weight r 1 * v 1) (weight r 0 * w 0) (weight r 1 * w 1)
    (one 0 (omega arith)) (one 1 (omega arith)))
    (one 2 (omega arith)))
    (one 3 (omega arith))

-- powers as products
pub record Powers (r : ℕ) : Type 0 where
  pub first : r ^ 1 ≡ r
  pub second : r ^ 2 ≡ r * r
  pub third : r ^ 3 ≡ r * (r * r)
  pub fourth : r ^ 4 ≡ r * (r * (r * r))
  pub eighth : r ^ 8 ≡ r ^ 4 * r ^ 4

pub powers_of : (r : ℕ) → Powers r
powers_of r =
    let one : r * 1 ≡ r = omega arith in
    let first : r ^ 1 ≡ r = pow-succ' r 0 ∙ ap (λ n. r * n) (pow-zero r) ∙ one in
    let second : r ^ 2 ≡ r * r = pow-succ' r 1 ∙ ap (λ n. r * n) first in
    let third : r ^ 3 ≡ r * (r * r) = pow-succ' r 2 ∙ ap (λ n. r * n) second in
    record {
      first = first;
      second = second;
      third = third;
      fourth = pow-succ' r 3 ∙ ap (λ n. r * n) third;
      eighth = pow-add r 4 4;
    }

horner_expanded : (r a b c d e : ℕ)
    → r * (r * (r * (r * (a + b) + c) + d) + e) ≡ r ^ 4 * a + (r ^ 4 * b + r ^ 2 * d + r ^ 3 * c + r ^ 1 * e)
horner_expanded r a b c d e =
    let p = powers_of r in rw (p.first, p.second, p.third, p.fourth) (omega arith)

-- four steps of the accumulator, reduced at the end alone
horner : (r a b c d e : ℕ)
    → r * (r * (r * (r * (a + b) % prime + c) % prime + d) % prime + e) % prime
    ≡ (r ^ 4 * a + (r ^ 4 * b + r ^ 2 * d + r ^ 3 * c + r ^ 1 * e)) % prime
horner r a b c d e =
    let x = r * (a + b) in
    let y = r * (x + c) in
    let z = r * (y + d) in
    let second : r * (x % prime + c) % prime ≡ y % prime = sym (summand_reduced r x c) in
    let third : r * (r * (x % prime + c) % prime + d) % prime ≡ z % prime =
    ap (λ n. r * (n + d) % prime) second ∙ sym (summand_reduced r y d) in
    ap (λ n. r * (n + e) % prime) third ∙ sym (summand_reduced r z e)
    ∙ ap (λ n. n % prime) (horner_expanded r a b c d e)

-- the blocks of a group in lanes
abbrev pub group : List ℕ → ℕ → ℕ
group text k = block text (block_of_lane k)

weighted-group : (r a : ℕ) (text : List ℕ)
    → (r ^ 4 * a + weighted r (group text)) % prime ≡ accumulator r a text 4
unfolding accumulator
weighted-group r a text = sym (horner r a (block text 0) (block text 1) (block text 2) (block text 3))

-- lanes that hold a, and then a group
pub weighted_more : (r a : ℕ) (v : ℕ → ℕ) (text : List ℕ) → weighted r v % prime ≡ r ^ 4 * a % prime
    → (weighted r v + weighted r (group text)) % prime ≡ accumulator r a text 4
weighted_more r a v text holds =
    mod_sum (weighted r v) (weighted r (group text)) (r ^ 4 * a) (weighted r (group text)) holds refl
    ∙ weighted-group r a text

distributed : (q a b c d v w x y k l m n : ℕ)
    → a * ((v + k) * q) + b * ((w + l) * q) + c * ((x + m) * q) + d * ((y + n) * q)
    ≡ q * ((a * v + b * w + c * x + d * y) + (a * k + b * l + c * m + d * n))
distributed q a b c d v w x y k l m n = omega arith

-- the same, times a power
pub weighted_step : (r q a : ℕ) (v : ℕ → ℕ) (text : List ℕ) → weighted r v % prime ≡ r ^ 4 * a % prime
    → weighted r (λ k. (v k + group text k) * q) % prime ≡ q * accumulator r a text 4 % prime
weighted_step r q a v text holds =
    let g = group text in
    ap (λ n. n % prime)
    (distributed q (weight r 0) (weight r 1) (weight r 2) (weight r 3) (v 0) (v 1) (v 2) (v 3) (g 0) (g 1) (g 2) (g 3))
    ∙ sym (mul-mod_second q (weighted r v + weighted r g) prime)
    ∙ ap (λ n. q * n % prime) (weighted_more r a v text holds)

added : (q a b c d v w x y k l m n : ℕ)
    → a * (v + k * q) + b * (w + l * q) + c * (x + m * q) + d * (y + n * q)
    ≡ (a * v + b * w + c * x + d * y) + q * (a * k + b * l + c * m + d * n)
added q a b c d v w x y k l m n = omega arith

eighth_power : (r a b : ℕ) → r ^ 8 * a + r ^ 4 * b ≡ r ^ 4 * (r ^ 4 * a + b)
eighth_power r a b = rw ((powers_of r).eighth) (omega arith)

-- two groups
pub weighted_pair : (r a : ℕ) (v : ℕ → ℕ) (text : List ℕ) → weighted r v % prime ≡ r ^ 4 * a % prime
    → weighted r (λ k. (v k + group text k) * r ^ 8 + group (drop 64 text) k * r ^ 4) % prime
    ≡ r ^ 4 * accumulator r a text 8 % prime
weighted_pair r a v text holds =
    let g = group (drop 64 text) in
    let first = λ (k : ℕ). (v k + group text k) * r ^ 8 in
    let half = accumulator r a text 4 in
    ap (λ n. n % prime)
    (added (r ^ 4) (weight r 0) (weight r 1) (weight r 2) (weight r 3)
    (first 0) (first 1) (first 2) (first 3) (g 0) (g 1) (g 2) (g 3))
    ∙ mod_sum (weighted r first) (r ^ 4 * weighted r g) (r ^ 8 * half) (r ^ 4 * weighted r g)
    (weighted_step r (r ^ 8) a v text holds) refl
    ∙ ap (λ n. n % prime) (eighth_power r half (weighted r g))
    ∙ sym (mul-mod_second (r ^ 4) (r ^ 4 * half + weighted r g) prime)
    ∙ ap (λ n. r ^ 4 * n % prime) (weighted-group r half (drop 64 text) ∙ sym (accumulator_behind r a text 4 4))

gathered : (a b c d v w x y k l m n : ℕ)
    → (v + k) * a + (w + l) * b + (x + m) * c + (y + n) * d
    ≡ (a * v + b * w + c * x + d * y) + (a * k + b * l + c * m + d * n)
gathered a b c d v w x y k l m n = omega arith

-- the last group, each lane times its own power
pub weighted_last : (r a : ℕ) (v : ℕ → ℕ) (text : List ℕ) → weighted r v % prime ≡ r ^ 4 * a % prime
    → ((v 0 + group text 0) * weight r 0 + (v 1 + group text 1) * weight r 1
    + (v 2 + group text 2) * weight r 2 + (v 3 + group text 3) * weight r 3) % prime
    ≡ accumulator r a text 4
weighted_last r a v text holds =
    let g = group text in
    ap (λ n. n % prime)
    (gathered (weight r 0) (weight r 1) (weight r 2) (weight r 3) (v 0) (v 1) (v 2) (v 3) (g 0) (g 1) (g 2) (g 3))
    ∙ weighted_more r a v text holds

-- a chunk of a slice
chunk_at : (n : ℕ) (xs : List ℕ) (k i : ℕ) (d : List ℕ) → i < k
    → get_or (first_chunks n k xs) i d ≡ take n (drop (n * i) xs)
chunk_at n xs zero i d h = absurd (omega arith)
chunk_at n xs (suc k) zero d h = let none : 0 ≡ n * 0 = omega arith in ap (λ m. take n (drop m xs)) none
chunk_at n xs (suc k) (suc i) d h =
    let below : i < k = omega arith in
    let place : n + n * i ≡ n * suc i = omega arith in
    chunk_at n (drop n xs) k i d below ∙ ap (take n) (drop-drop (n * i) n xs) ∙ ap (λ m. take n (drop m xs)) place

-- the accumulator after one pair of groups more
pub pair_more : (r a : ℕ) (text : List ℕ) (k i : ℕ) → 128 * k ≤ length text → i < k
    → accumulator r (accumulator r a text (8 * i)) (get_or (first_chunks 128 k text) i []) 8
    ≡ accumulator r a text (8 * (i + 1))
pair_more r a text k i room h =
    let rest = drop (128 * i) text in
    let pair = take 128 rest in
    let half = accumulator r a text (8 * i) in
    let long : length pair ≡ 128 = omega (arith, length-take 128 rest, length-drop (128 * i) text) in
    let place : 16 * (8 * i) ≡ 128 * i = omega arith in
    let more : 8 * (i + 1) ≡ 8 * i + 8 = omega arith in
    ap (λ p. accumulator r half p 8) (chunk_at 128 text k i [] h)
    ∙ sym (accumulator_front r half pair (drop 128 rest) 8 (omega arith))
    ∙ ap (λ xs. accumulator r half xs 8) (take-append-drop 128 rest)
    ∙ ap (λ n. accumulator r half (drop n text) 8) (sym place)
    ∙ sym (accumulator_behind r a text (8 * i) 8) ∙ ap (accumulator r a text) (sym more)
