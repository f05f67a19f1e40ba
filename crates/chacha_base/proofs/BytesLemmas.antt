-- Words as bytes and back, one word more at a time, and a number of 8 bytes as two words. The proofs of `write_bytes`
-- and `read_words` cite these, and those of rows, of start states and of generators. Read `ChaCha` first.
use Rattle.std.proofs.Common.{◌≡◌, ℕ, zero, suc, ◌+◌, ◌*◌, ◌-◌, ◌/◌, ◌%◌, ◌^◌, ◌≤◌, ◌<◌, List, [], ◌∷◌, ◌++◌, length, take, slice_index, arith, refl, sym, ap, ap₂, ◌∙◌, append_assoc, w32}
use Rattle.std.proofs.lemmas.List.{take_more}
use Rattle.std.proofs.lemmas.Nat.{from_le_bytes-to_le_bytes_4}
use Rattle.std.proofs.lemmas.Slice.{take-put_mid}
use borrow.Rule.Slice.PartMut.{put_mid}
use Rattle.std.specs.Simd.Lanes.{Each1, number_l, digits_l}
use Rattle.std.specs.Int.{w64, to_le_bytes, from_le_bytes}
use Rattle.chacha_base.specs.ChaCha.{word_bytes, bytes, words}

pub bytes-append : (xs ys : List ℕ) → bytes (xs ++ ys) ≡ bytes xs ++ bytes ys
bytes-append [] ys = refl
bytes-append (x ∷ xs) ys =
    rw (bytes-append xs ys) (sym (append_assoc (word_bytes x) (bytes xs) (bytes ys)))

-- after a write of word i behind the bytes of the words before it
pub bytes-written : (xs out four : List ℕ) (i : ℕ) → i < length xs → 4 * i + 4 ≤ length out
    → take (4 * i) out ≡ bytes (take i xs) → four ≡ to_le_bytes w32 (slice_index xs i)
    → take (4 * (i + 1)) (put_mid (4 * i) (4 * i + 4 - 4 * i) out four) ≡ bytes (take (i + 1) xs)
bytes-written xs out four i inside room before made =
    let place : 4 * (i + 1) ≡ 4 * i + 4 = omega arith in
    let made : four ≡ word_bytes (slice_index xs i) = made in
    rw place
    (take-put_mid (4 * i) (4 * i + 4 - 4 * i) out four (4 * i + 4) (omega (arith, ap length made)) (omega arith)
    ∙ ap₂ ◌++◌ before made
    ∙ sym (ap bytes (take_more xs i 0 inside) ∙ bytes-append (take i xs) (slice_index xs i ∷ [])))

-- word i of a list of bytes
abbrev word_at : List ℕ → ℕ → ℕ
word_at bs i =
    from_le_bytes w32 (slice_index bs (4 * i) ∷ slice_index bs (4 * i + 1)
    ∷ slice_index bs (4 * i + 2) ∷ slice_index bs (4 * i + 3) ∷ [])

-- the words of one word's bytes more
pub words-more : (i : ℕ) (bs : List ℕ) → 4 * i + 4 ≤ length bs
    → words (take (4 * (i + 1)) bs) ≡ words (take (4 * i) bs) ++ word_at bs i ∷ []
words-more zero (a ∷ b ∷ c ∷ d ∷ bs) h =
    let word : a + 256 * b + 256 ^ 2 * c + 256 ^ 3 * d ≡ from_le_bytes w32 (a ∷ b ∷ c ∷ d ∷ []) = omega arith in
    ap (λ x. x ∷ []) word
words-more (suc i) (a ∷ b ∷ c ∷ d ∷ bs) h =
    let whole : 4 * (suc i + 1) ≡ suc (suc (suc (suc (4 * (i + 1))))) = omega arith in
    let front : 4 * suc i ≡ suc (suc (suc (suc (4 * i)))) = omega arith in
    let one : 4 * suc i + 1 ≡ suc (suc (suc (suc (4 * i + 1)))) = omega arith in
    let two : 4 * suc i + 2 ≡ suc (suc (suc (suc (4 * i + 2)))) = omega arith in
    let three : 4 * suc i + 3 ≡ suc (suc (suc (suc (4 * i + 3)))) = omega arith in
    rw (whole, one, two, three, front)
    (ap (λ t. (a + 256 * b + 256 ^ 2 * c + 256 ^ 3 * d) ∷ t) (words-more i bs (omega arith)))
words-more i _ h = absurd (omega arith)

-- four bytes a word
pub length-words : (n : ℕ) (bs : List ℕ) → length bs ≡ 4 * n → length (words bs) ≡ n
length-words zero [] h = refl
length-words (suc n) (a ∷ b ∷ c ∷ d ∷ bs) h = ap suc (length-words n bs (omega arith))
length-words _ _ h = absurd (omega arith)

-- the bytes of a number that words make, word by word
digits-word : (n x y : ℕ) → x < 2 ^ 32 → digits_l 256 (4 + n) (x + 2 ^ 32 * y) ≡ word_bytes x ++ digits_l 256 n y
digits-word n x y word =
    let more : 4 + n ≡ suc (suc (suc (suc n))) = omega arith in
    let b0 : (x + 2 ^ 32 * y) % 256 ≡ x % 256 = omega arith in
    let b1 : (x + 2 ^ 32 * y) / 256 % 256 ≡ x / 256 % 256 = omega arith in
    let b2 : (x + 2 ^ 32 * y) / 256 / 256 % 256 ≡ x / 256 ^ 2 % 256 = omega arith in
    let b3 : (x + 2 ^ 32 * y) / 256 / 256 / 256 % 256 ≡ x / 256 ^ 3 % 256 = omega arith in
    let rest : (x + 2 ^ 32 * y) / 256 / 256 / 256 / 256 ≡ y = omega arith in
    rw (more, b0, b1, b2, b3, rest) refl

pub digits-bytes : (xs : List ℕ) → Each1 (λ x. x < 2 ^ 32) xs
    → digits_l 256 (4 * length xs) (number_l (2 ^ 32) xs) ≡ bytes xs
digits-bytes [] words = refl
digits-bytes (x ∷ xs) words =
    let more : 4 * length (x ∷ xs) ≡ 4 + 4 * length xs = omega arith in
    rw more (digits-word (4 * length xs) x (number_l (2 ^ 32) xs) words.0
    ∙ ap (λ t. word_bytes x ++ t) (digits-bytes xs words.1))

-- each byte is below 256
abbrev pub Bytes : List ℕ → Type 0
Bytes bs = (i : ℕ) → slice_index bs i < 256

pub length-bytes : (ws : List ℕ) → length (bytes ws) ≡ 4 * length ws
length-bytes [] = refl
length-bytes (x ∷ xs) = let rest = length-bytes xs in omega (arith, rest)

pub bytes-below : (ws : List ℕ) → Bytes (bytes ws)
bytes-below [] i = omega arith
bytes-below (x ∷ xs) zero = omega arith
bytes-below (x ∷ xs) (suc zero) = omega arith
bytes-below (x ∷ xs) (suc (suc zero)) = omega arith
bytes-below (x ∷ xs) (suc (suc (suc zero))) = omega arith
bytes-below (x ∷ xs) (suc (suc (suc (suc i)))) = bytes-below xs i

-- the four bytes of a word made of four
bytes-word : (a b c d : ℕ) → a < 256 → b < 256 → c < 256 → d < 256
    → word_bytes (a + 256 * b + 256 ^ 2 * c + 256 ^ 3 * d) ≡ a ∷ b ∷ c ∷ d ∷ []
bytes-word a b c d ha hb hc hd =
    let x = a + 256 * b + 256 ^ 2 * c + 256 ^ 3 * d in
    let e0 : x % 256 ≡ a = omega arith in
    let e1 : x / 256 % 256 ≡ b = omega arith in
    let e2 : x / 256 ^ 2 % 256 ≡ c = omega arith in
    let e3 : x / 256 ^ 3 % 256 ≡ d = omega arith in cc

pub bytes-words : (n : ℕ) (bs : List ℕ) → length bs ≡ 4 * n → Bytes bs → bytes (words bs) ≡ bs
bytes-words zero [] long fits = refl
bytes-words (suc n) (a ∷ b ∷ c ∷ d ∷ bs) long fits =
    ap₂ ◌++◌ (bytes-word a b c d (fits 0) (fits 1) (fits 2) (fits 3))
    (bytes-words n bs (omega arith) (λ i. fits (suc (suc (suc (suc i))))))
bytes-words n bs long fits = absurd (omega arith)

-- the two words of the 8 bytes of a number, and the number of two words
pub words-to_le_bytes : (x : ℕ) → x < 2 ^ 64 → words (to_le_bytes w64 x) ≡ x % 2 ^ 32 ∷ x / 2 ^ 32 ∷ []
words-to_le_bytes x fits =
    let low : x % 256 + 256 * (x / 256 % 256) + 256 ^ 2 * (x / 256 ^ 2 % 256) + 256 ^ 3 * (x / 256 ^ 3 % 256)
    ≡ x % 2 ^ 32 = omega arith in
    let high : x / 256 ^ 4 % 256 + 256 * (x / 256 ^ 5 % 256) + 256 ^ 2 * (x / 256 ^ 6 % 256)
    + 256 ^ 3 * (x / 256 ^ 7 % 256) ≡ x / 2 ^ 32 = omega arith in
    ap₂ (λ l h. l ∷ h ∷ []) low high

pub from_le_bytes-bytes : (low high : ℕ) → low < 2 ^ 32 → high < 2 ^ 32
    → from_le_bytes w64 (bytes (low ∷ high ∷ [])) ≡ low + 2 ^ 32 * high
from_le_bytes-bytes low high low_fits high_fits =
    omega (arith, from_le_bytes-to_le_bytes_4 low low_fits, from_le_bytes-to_le_bytes_4 high high_fits)
