-- Lanes of vectors: their words rotated, the lanes rotated, interleaved, and written as bytes. The proofs of `vector`,
-- and some of rows and columns, cite these. Read `Lanes` first.
use Rattle.std.proofs.Common.{w32, Fits, ◌≡◌, ℕ, zero, suc, ◌<◌, ◌+◌, ◌-◌, ◌*◌, ◌/◌, ◌%◌, ◌^◌, List, [], ◌∷◌, ◌++◌, length, map, slice_index, replicate, bit_or, bit_xor, arith, refl, sym, ap, ap₂, ◌∙◌}
use Rattle.std.specs.List.{range_with_len}
use Rattle.std.specs.Simd.Lanes.{zip2, Each1, pick_l, number_l, digits_l}
use Rattle.std.proofs.lemmas.List.{get_or-map}
use Rattle.std.proofs.lemmas.Nat.{xor_lt, xor_shr, xor_mod}
use Rattle.std.proofs.lemmas.Simd.{below_from_Fits, Each1-get_or, get_or-zip2, get_or-replicate, length-zip2, length-replicate}
use Rattle.chacha_base.specs.ChaCha.{rotl, word_bytes, bytes}
use Rattle.chacha_base.specs.Lanes.{quad, rotated}
use Rattle.chacha_base.proofs.ListLemmas.{words_of, by_words, below_four}
use Rattle.chacha_base.proofs.WordLemmas.{rotate_left_is}
use Rattle.chacha_base.proofs.BytesLemmas.{digits-bytes}

-- lane j of an operation on two vectors
lane_of : (f : ℕ → ℕ → ℕ) (n : ℕ) (a b : List ℕ) → length a ≡ n → length b ≡ n → (j : ℕ) → j < n
    → slice_index (zip2 f a b) j ≡ f (slice_index a j) (slice_index b j)
lane_of f n a b la lb j h = get_or-zip2 f a b j 0 0 0 (omega arith) (omega arith)

-- a vector of n words
abbrev IsVector : ℕ → List ℕ → Type 0
IsVector n xs = (length xs ≡ n) × Each1 (Fits w32) xs

-- the words of a lane, combined and shifted both ways, are their exclusive or rotated
pub xor_shifted-is-rotl : {n : ℕ} (k : ℕ) (a b : List ℕ) → (0 < k) × (k < 32) → IsVector n a → IsVector n b
    → (j : ℕ) → j < n
    → slice_index (zip2 bit_or
    (zip2 (λ x s. x * 2 ^ s % 2 ^ 32) (zip2 bit_xor a b) (replicate n k))
    (zip2 (λ x s. x / 2 ^ s) (zip2 bit_xor a b) (replicate n (32 - k)))) j
    ≡ rotl (bit_xor (slice_index a j) (slice_index b j)) k
xor_shifted-is-rotl {n} k a b turn va vb j h =
    let x = zip2 bit_xor a b in
    let ks = replicate n k in
    let ms = replicate n (32 - k) in
    let up = zip2 (λ (x s : ℕ). x * 2 ^ s % 2 ^ 32) x ks in
    let down = zip2 (λ (x s : ℕ). x / 2 ^ s) x ms in
    let lx : length x ≡ n = length-zip2 bit_xor a b (omega arith) ∙ va.0 in
    let lk = length-replicate n k in
    let lm = length-replicate n (32 - k) in
    let lup : length up ≡ n = length-zip2 _ x ks (omega arith) ∙ lx in
    let ldown : length down ≡ n = length-zip2 _ x ms (omega arith) ∙ lx in
    let word_a : slice_index a j < 2 ^ 32 =
    Each1-get_or (λ x. x < 2 ^ 32) a j 0 (omega arith) (below_from_Fits w32 a va.1) in
    let word_b : slice_index b j < 2 ^ 32 =
    Each1-get_or (λ x. x < 2 ^ 32) b j 0 (omega arith) (below_from_Fits w32 b vb.1) in
    let w = bit_xor (slice_index a j) (slice_index b j) in
    let left : k % 32 ≡ k = omega arith in
    let right : (32 - k) % 32 ≡ 32 - k = omega arith in
    let rotated : bit_or (w * 2 ^ k % 2 ^ 32) (w / 2 ^ (32 - k)) ≡ rotl w k =
    rw (left, right) at (rotate_left_is w k (xor_lt 32 _ _ word_a word_b) turn.0 turn.1) in
    rw (
      lane_of bit_or n up down lup ldown j h,
      lane_of (λ x s. x * 2 ^ s % 2 ^ 32) n x ks lx lk j h,
      lane_of (λ x s. x / 2 ^ s) n x ms lx lm j h,
      lane_of bit_xor n a b va.0 vb.0 j h,
      get_or-replicate n j k 0 h,
      get_or-replicate n j (32 - k) 0 h,
    ) rotated

-- where the words of m quads are taken from, each quad rotated to the left by k places
abbrev rotated_places : (k m : ℕ) → List ℕ
rotated_places k m = map (λ j. 4 * (j / 4) + (k + j) % 4) (range_with_len 0 (4 * m))

-- the bytes of each word, rotated to the left by k places
abbrev pub rotated_bytes : ℕ → List ℕ → List ℕ
rotated_bytes k [] = []
rotated_bytes k (x ∷ xs) = rotated k (word_bytes x) ++ rotated_bytes k xs

-- before other bytes, those of a word are the word rotated
rotated-word : (x : ℕ) (bs : List ℕ) → x < 2 ^ 32 → (k : ℕ) → k < 4
    → (let all = number_l 256 (rotated k (word_bytes x) ++ bs) in
    (all % 2 ^ 32 ≡ rotl x (32 - 8 * k)) × (all / 2 ^ 32 ≡ number_l 256 bs))
rotated-word x bs word =
    below_four _ (omega (arith, word), omega arith) (omega (arith, word), omega arith)
    (omega (arith, word), omega arith) (omega (arith, word), omega arith)

rotated_bytes-words : (k : ℕ) → k < 4 → (xs : List ℕ) → Each1 (λ x. x < 2 ^ 32) xs
    → digits_l (2 ^ 32) (length xs) (number_l 256 (rotated_bytes k xs)) ≡ map (λ x. rotl x (32 - 8 * k)) xs
rotated_bytes-words k less [] words = refl
rotated_bytes-words k less (x ∷ xs) words =
    let first = rotated-word x (rotated_bytes k xs) words.0 k less in
    rw (first.0, first.1) (ap (λ t. rotl x (32 - 8 * k) ∷ t) (rotated_bytes-words k less xs words.1))

words-xor : (a b : List ℕ) → Each1 (λ x. x < 2 ^ 32) a → Each1 (λ x. x < 2 ^ 32) b
    → Each1 (λ x. x < 2 ^ 32) (zip2 bit_xor a b)
words-xor [] b fa fb = tt
words-xor (x ∷ xs) [] fa fb = tt
words-xor (x ∷ xs) (y ∷ ys) fa fb = (xor_lt 32 x y fa.0 fb.0, words-xor xs ys fa.1 fb.1)

-- the bytes of two words, combined
byte-xor : (x y k : ℕ) → bit_xor (x / 2 ^ k % 2 ^ 8) (y / 2 ^ k % 2 ^ 8) ≡ bit_xor x y / 2 ^ k % 2 ^ 8
byte-xor x y k = sym (ap (λ z. z % 2 ^ 8) (xor_shr x y k) ∙ xor_mod (x / 2 ^ k) (y / 2 ^ k) 8)

bytes-xor : (a b : List ℕ) → zip2 bit_xor (bytes a) (bytes b) ≡ bytes (zip2 bit_xor a b)
bytes-xor [] b = refl
bytes-xor (x ∷ xs) [] = refl
bytes-xor (x ∷ xs) (y ∷ ys) =
    rw (byte-xor x y 8, byte-xor x y 16, byte-xor x y 24, sym (xor_mod x y 8), bytes-xor xs ys) refl

-- the bytes of n words
abbrev bytes_of : ℕ → List ℕ → List ℕ
bytes_of n xs = digits_l 256 (4 * n) (number_l (2 ^ 32) xs)

bytes_of-is : (n : ℕ) (xs : List ℕ) → length xs ≡ n → Each1 (λ x. x < 2 ^ 32) xs → bytes_of n xs ≡ bytes xs
bytes_of-is n xs long words = ap (λ m. bytes_of m xs) (sym long) ∙ digits-bytes xs words

-- n words whose bytes are moved, each word's rotated to the left by k places
abbrev moved_bytes : (k n : ℕ) → List ℕ → List ℕ
moved_bytes k n bytes = digits_l (2 ^ 32) n (number_l 256 (pick_l 0 bytes (rotated_places k n)))

-- rotated bytes of words are the words rotated
rotated_bytes-lane : {n : ℕ} (k : ℕ) (xs : List ℕ) → k < 4 → length xs ≡ n → Each1 (λ x. x < 2 ^ 32) xs
    → (j : ℕ) → j < n → slice_index (digits_l (2 ^ 32) n (number_l 256 (rotated_bytes k xs))) j
    ≡ rotl (slice_index xs j) (32 - 8 * k)
rotated_bytes-lane {n} k xs less lx words j h =
    ap (λ m. slice_index (digits_l (2 ^ 32) m (number_l 256 (rotated_bytes k xs))) j) (sym lx)
    ∙ ap (λ ys. slice_index ys j) (rotated_bytes-words k less xs words)
    ∙ get_or-map (λ x. rotl x (32 - 8 * k)) xs j 0 0 (omega arith)

-- the bytes of words, XORed and each word's rotated, are the words XORed and rotated
pub xor_bytes-is-rotl : {n : ℕ} (k : ℕ) (a b : List ℕ) → k < 4 → IsVector n a → IsVector n b
    → ((xs : List ℕ) → pick_l 0 (bytes (words_of n xs)) (rotated_places k n) ≡ rotated_bytes k (words_of n xs))
    → (j : ℕ) → j < n → slice_index (moved_bytes k n (zip2 bit_xor (bytes_of n a) (bytes_of n b))) j
    ≡ rotl (bit_xor (slice_index a j) (slice_index b j)) (32 - 8 * k)
xor_bytes-is-rotl {n} k a b less va vb moved j h =
    let xs = zip2 bit_xor a b in
    let lx : length xs ≡ n = length-zip2 bit_xor a b (omega arith) ∙ va.0 in
    let wa = below_from_Fits w32 a va.1 in
    let wb = below_from_Fits w32 b vb.1 in
    let all : zip2 bit_xor (bytes_of n a) (bytes_of n b) ≡ bytes xs =
    ap₂ (zip2 bit_xor) (bytes_of-is n a va.0 wa) (bytes_of-is n b vb.0 wb) ∙ bytes-xor a b in
    let first = by_words n (λ ys. pick_l 0 (bytes ys) (rotated_places k n) ≡ rotated_bytes k ys) xs lx (moved xs) in
    ap (λ bs. slice_index (moved_bytes k n bs) j) all
    ∙ ap (λ ys. slice_index (digits_l (2 ^ 32) n (number_l 256 ys)) j) first
    ∙ rotated_bytes-lane k xs less lx (words-xor a b wa wb) j h
    ∙ ap (λ x. rotl x (32 - 8 * k)) (lane_of bit_xor n a b va.0 vb.0 j h)

-- the halves of each word, the low one first; and the high one first
abbrev pub halves : List ℕ → List ℕ
halves [] = []
halves (x ∷ xs) = x % 2 ^ 16 ∷ x / 2 ^ 16 ∷ halves xs

abbrev pub swapped : List ℕ → List ℕ
swapped [] = []
swapped (x ∷ xs) = x / 2 ^ 16 ∷ x % 2 ^ 16 ∷ swapped xs

bytes-halves : (xs : List ℕ) → Each1 (λ x. x < 2 ^ 32) xs
    → digits_l (2 ^ 16) (2 * length xs) (number_l 256 (bytes xs)) ≡ halves xs
bytes-halves [] words = refl
bytes-halves (x ∷ xs) words =
    let n = number_l 256 (bytes xs) in
    let all : ℕ = number_l 256 (bytes (x ∷ xs)) in
    let more : 2 * length (x ∷ xs) ≡ suc (suc (2 * length xs)) = omega arith in
    let low : all % 2 ^ 16 ≡ x % 2 ^ 16 = omega arith in
    let high : all / 2 ^ 16 % 2 ^ 16 ≡ x / 2 ^ 16 = omega (arith, words.0) in
    let rest : all / 2 ^ 16 / 2 ^ 16 ≡ n = omega arith in
    rw (more, low, high, rest) (ap (λ t. x % 2 ^ 16 ∷ x / 2 ^ 16 ∷ t) (bytes-halves xs words.1))

halves-xor : (a b : List ℕ) → zip2 bit_xor (halves a) (halves b) ≡ halves (zip2 bit_xor a b)
halves-xor [] b = refl
halves-xor (x ∷ xs) [] = refl
halves-xor (x ∷ xs) (y ∷ ys) = rw (xor_shr x y 16, xor_mod x y 16, halves-xor xs ys) refl

-- the bytes of swapped halves are those of the words, rotated by two places
swapped-bytes : (xs : List ℕ) → Each1 (λ x. x < 2 ^ 32) xs
    → digits_l 256 (4 * length xs) (number_l (2 ^ 16) (swapped xs)) ≡ rotated_bytes 2 xs
swapped-bytes [] words = refl
swapped-bytes (x ∷ xs) words =
    let y = number_l (2 ^ 16) (swapped xs) in
    let more : 4 * length (x ∷ xs) ≡ suc (suc (suc (suc (4 * length xs)))) = omega arith in
    let all : ℕ = x / 2 ^ 16 + 2 ^ 16 * (x % 2 ^ 16 + 2 ^ 16 * y) in
    let b0 : all % 256 ≡ x / 256 ^ 2 % 256 = omega arith in
    let b1 : all / 256 % 256 ≡ x / 256 ^ 3 % 256 = omega (arith, words.0) in
    let b2 : all / 256 / 256 % 256 ≡ x % 256 = omega (arith, words.0) in
    let b3 : all / 256 / 256 / 256 % 256 ≡ x / 256 % 256 = omega (arith, words.0) in
    let rest : all / 256 / 256 / 256 / 256 ≡ y = omega (arith, words.0) in
    rw (more, b0, b1, b2, b3, rest) (ap (λ t. rotated 2 (word_bytes x) ++ t) (swapped-bytes xs words.1))

-- the halves of n words
abbrev halves_of : ℕ → List ℕ → List ℕ
halves_of n xs = digits_l (2 ^ 16) (2 * n) (number_l 256 (bytes_of n xs))

halves_of-is : (n : ℕ) (xs : List ℕ) → length xs ≡ n → Each1 (λ x. x < 2 ^ 32) xs → halves_of n xs ≡ halves xs
halves_of-is n xs long words =
    ap (λ bs. digits_l (2 ^ 16) (2 * n) (number_l 256 bs)) (bytes_of-is n xs long words)
    ∙ ap (λ m. digits_l (2 ^ 16) (2 * m) (number_l 256 (bytes xs))) (sym long) ∙ bytes-halves xs words

-- where the halves of n words are taken from, those of each word swapped
abbrev swapped_places : ℕ → List ℕ
swapped_places n = map (λ j. 2 * (j / 2) + (1 + j) % 2) (range_with_len 0 (2 * n))

-- the halves of words, XORed and those of each word swapped, are the words XORed and rotated
pub xor_halves-is-rotl : {n : ℕ} (a b : List ℕ) → IsVector n a → IsVector n b
    → ((xs : List ℕ) → pick_l 0 (halves (words_of n xs)) (swapped_places n) ≡ swapped (words_of n xs))
    → (j : ℕ) → j < n → slice_index (digits_l (2 ^ 32) n (number_l 256 (digits_l 256 (4 * n) (number_l (2 ^ 16)
    (pick_l 0 (zip2 bit_xor (halves_of n a) (halves_of n b)) (swapped_places n)))))) j
    ≡ rotl (bit_xor (slice_index a j) (slice_index b j)) 16
xor_halves-is-rotl {n} a b va vb moved j h =
    let xs = zip2 bit_xor a b in
    let lx : length xs ≡ n = length-zip2 bit_xor a b (omega arith) ∙ va.0 in
    let wa = below_from_Fits w32 a va.1 in
    let wb = below_from_Fits w32 b vb.1 in
    let words = words-xor a b wa wb in
    let all : zip2 bit_xor (halves_of n a) (halves_of n b) ≡ halves xs =
    ap₂ (zip2 bit_xor) (halves_of-is n a va.0 wa) (halves_of-is n b vb.0 wb) ∙ halves-xor a b in
    let first = by_words n (λ ys. pick_l 0 (halves ys) (swapped_places n) ≡ swapped ys) xs lx (moved xs) in
    let back : digits_l 256 (4 * n) (number_l (2 ^ 16) (swapped xs)) ≡ rotated_bytes 2 xs =
    ap (λ m. digits_l 256 (4 * m) (number_l (2 ^ 16) (swapped xs))) (sym lx) ∙ swapped-bytes xs words in
    let lane = λ (bs : List ℕ). slice_index (digits_l (2 ^ 32) n (number_l 256 bs)) j in
    ap (λ hs. lane (digits_l 256 (4 * n) (number_l (2 ^ 16) (pick_l 0 hs (swapped_places n))))) all
    ∙ ap (λ hs. lane (digits_l 256 (4 * n) (number_l (2 ^ 16) hs))) first
    ∙ ap lane back
    ∙ rotated_bytes-lane 2 xs (omega arith) lx words j h
    ∙ ap (λ x. rotl x 16) (lane_of bit_xor n a b va.0 vb.0 j h)

-- quads of words that are picked from two vectors, from the same quad of both
pub quads-picked : (places : List ℕ) (n : ℕ) (f : List ℕ → List ℕ → List ℕ) (a b : List ℕ)
    → length a ≡ n → length b ≡ n
    → ((g : ℕ) → g < 4 → quad (slice_index (pick_l 0 (words_of n a ++ words_of n b) places)) g
    ≡ f (quad (slice_index (words_of n a)) g) (quad (slice_index (words_of n b)) g))
    → (g : ℕ) → g < 4
    → quad (slice_index (pick_l 0 (a ++ b) places)) g ≡ f (quad (slice_index a) g) (quad (slice_index b) g)
quads-picked places n f a b la lb same g less =
    let made = λ (x y : List ℕ). quad (slice_index (pick_l 0 (x ++ y) places)) g
    ≡ f (quad (slice_index x) g) (quad (slice_index y) g) in
    by_words n (λ x. made x b) a la (by_words n (made (words_of n a)) b lb (same g less))

-- where words that alternate between two vectors of n stand, in m quads, from word k of both on
abbrev pub alternating : (n m k : ℕ) → List ℕ
alternating n zero k = []
alternating n (suc m) k = k ∷ (n + k) ∷ (k + 1) ∷ (n + (k + 1)) ∷ alternating n m (k + 4)

-- turns by a number of places and by what is left of it after whole turns
pub rotated-rest : (k m : ℕ) (x : List ℕ) → k % 4 ≡ m → rotated k x ≡ rotated m x
rotated-rest k m x rest =
    let first : k % 4 ≡ m % 4 = omega arith in
    let second : (k + 1) % 4 ≡ (m + 1) % 4 = omega arith in
    let third : (k + 2) % 4 ≡ (m + 2) % 4 = omega arith in
    let fourth : (k + 3) % 4 ≡ (m + 3) % 4 = omega arith in
    rw (first, second, third, fourth) refl

pub quads-rotated : {vector : List ℕ} (m by k : ℕ) (xs : List ℕ) → vector ≡ pick_l 0 (xs ++ xs) (rotated_places k m)
    → by % 4 ≡ k → length xs ≡ 4 * m
    → (let ys = words_of (4 * m) xs in (g : ℕ) → g < 4
    → quad (slice_index (pick_l 0 (ys ++ ys) (rotated_places k m))) g ≡ rotated k (quad (slice_index ys) g))
    → (g : ℕ) → g < 4 → quad (slice_index vector) g ≡ rotated by (quad (slice_index xs) g)
quads-rotated m by k xs is rest long same g less =
    ap (λ v. quad (slice_index v) g) is
    ∙ quads-picked (rotated_places k m) (4 * m) (λ x y. rotated k x) xs xs long long same g less
    ∙ sym (rotated-rest by k (quad (slice_index xs) g) rest)
