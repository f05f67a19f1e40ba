-- The generators of the toolchain's `rand_chacha` read the words that ours read. The proof of `same_stream` cites this.
-- Read `Generator` of `chacha20`, and `Block` and `ChaCha` of `rand_chacha`, first.
use Rattle.std.proofs.Common.{◌≡◌, ℕ, zero, suc, ◌+◌, ◌*◌, ◌/◌, ◌%◌, ◌^◌, ◌<◌, List, [], ◌∷◌, ◌++◌, length, slice_index, bit_xor, arith, refl, sym, ap, ap₂, ◌∙◌, w32}
use Rattle.std.proofs.Math.Path.{fun_ext}
use Rattle.std.proofs.lemmas.Nat.{xor_of_32}
use Rattle.std.proofs.lemmas.List.FromFn.{get_or-map-range_with_len}
use Rattle.std.specs.Int.{w64, to_le_bytes}
use Rattle.std.specs.Simd.Lanes.{Each1}
use Rattle.rand_core.specs.Stream.{Call, u32_call, u64_call, bytes_call}
use Rattle.rand_core.specs.Steps.{stream_of, steps_u32, state_after, u32_at, u64_via_u32, fill_via_u32, word_bytes, first_bytes}
use Rattle.rand_chacha.specs.Block.{quarter_round, column_round, diagonal_round, double_rounds, initial_state, block_word}
use Rattle.rand_chacha.specs.ChaCha.{ChaCha, next_word, key_of}
use Rattle.chacha_base.specs.ChaCha.{bytes, words, rotl, quarter, columns, diagonals, rounds, add, add_states, mix, start, legacy, stream_part}
use Rattle.chacha_base.proofs.BytesLemmas.{Bytes, words-to_le_bytes, bytes-append}
use Rattle.chacha_base.proofs.KeystreamLemmas.{stream_part-add}
use Rattle.chacha_base.proofs.ListLemmas.{by_words}
use Rattle.chacha_base.proofs.WordLemmas.{rotate_left_is}
use Rattle.chacha20.specs.Generator.{GeneratorState, positions, at_word_pos, word, next_u32, next_u64, fill, reads}

-- Blocks. The two definitions of a rotation are one on words below 2 ^ 32.
abbrev Words : List ℕ → Type 0
Words s = (i : ℕ) → slice_index s i < 2 ^ 32

words-each : (xs : List ℕ) → Each1 (λ x. x < 2 ^ 32) xs → Words xs
words-each [] each i = omega arith
words-each (x ∷ xs) each zero = each.0
words-each (x ∷ xs) each (suc i) = words-each xs each.1 i

abbrev Below : ℕ × ℕ × ℕ × ℕ → Type 0
Below q = (q.0 < 2 ^ 32) × (q.1 < 2 ^ 32) × (q.2 < 2 ^ 32) × (q.3 < 2 ^ 32)

quarter-same : (a b c d : ℕ) → b < 2 ^ 32 → d < 2 ^ 32
    → (quarter_round a b c d ≡ quarter a b c d) × Below (quarter a b c d)
unfolding quarter_round quarter
quarter-same a b c d b_fits d_fits =
    let sum : (x y : ℕ) → add x y < 2 ^ 32 = λ x y. omega arith in
    let a1 = add a b in
    let x1 = bit_xor d a1 in
    let x1_fits : x1 < 2 ^ 32 = xor_of_32 d a1 d_fits (sum a b) in
    let d1 = rotl x1 16 in
    let d1_fits : d1 < 2 ^ 32 = omega (arith, x1_fits) in
    let c1 = add c d1 in
    let x2 = bit_xor b c1 in
    let x2_fits : x2 < 2 ^ 32 = xor_of_32 b c1 b_fits (sum c d1) in
    let b1 = rotl x2 12 in
    let b1_fits : b1 < 2 ^ 32 = omega (arith, x2_fits) in
    let a2 = add a1 b1 in
    let x3 = bit_xor d1 a2 in
    let x3_fits : x3 < 2 ^ 32 = xor_of_32 d1 a2 d1_fits (sum a1 b1) in
    let d2 = rotl x3 8 in
    let c2 = add c1 d2 in
    let x4 = bit_xor b1 c2 in
    let x4_fits : x4 < 2 ^ 32 = xor_of_32 b1 c2 b1_fits (sum c1 d2) in
    let e1 = rotate_left_is x1 16 x1_fits (omega arith) (omega arith) in
    let e2 = rotate_left_is x2 12 x2_fits (omega arith) (omega arith) in
    let e3 = rotate_left_is x3 8 x3_fits (omega arith) (omega arith) in
    let e4 = rotate_left_is x4 7 x4_fits (omega arith) (omega arith) in
    (rw (e1, e2, e3, e4) refl, (sum a1 b1, omega (arith, x4_fits), sum c1 d2, omega (arith, x3_fits)))

columns-same : (s : List ℕ) → Words s → (column_round s ≡ columns s) × Words (columns s)
unfolding column_round columns
columns-same s fits =
    let at : ℕ → ℕ = slice_index s in
    let p = quarter-same (at 0) (at 4) (at 8) (at 12) (fits 4) (fits 12) in
    let q = quarter-same (at 1) (at 5) (at 9) (at 13) (fits 5) (fits 13) in
    let r = quarter-same (at 2) (at 6) (at 10) (at 14) (fits 6) (fits 14) in
    let t = quarter-same (at 3) (at 7) (at 11) (at 15) (fits 7) (fits 15) in (
      rw (p.0, q.0, r.0, t.0) refl,
      words-each (columns s) (assumption (p.1, q.1, r.1, t.1)),
    )

diagonals-same : (s : List ℕ) → Words s → (diagonal_round s ≡ diagonals s) × Words (diagonals s)
unfolding diagonal_round diagonals
diagonals-same s fits =
    let at : ℕ → ℕ = slice_index s in
    let p = quarter-same (at 0) (at 5) (at 10) (at 15) (fits 5) (fits 15) in
    let q = quarter-same (at 1) (at 6) (at 11) (at 12) (fits 6) (fits 12) in
    let r = quarter-same (at 2) (at 7) (at 8) (at 13) (fits 7) (fits 13) in
    let t = quarter-same (at 3) (at 4) (at 9) (at 14) (fits 4) (fits 14) in (
      rw (p.0, q.0, r.0, t.0) refl,
      words-each (diagonals s) (assumption (p.1, q.1, r.1, t.1)),
    )

rounds-same : (n : ℕ) (s : List ℕ) → Words s → (double_rounds n s ≡ rounds n s) × Words (rounds n s)
unfolding double_rounds rounds
rounds-same zero s fits = (refl, fits)
rounds-same (suc n) s fits =
    let before = rounds-same n s fits in
    let columns = columns-same (rounds n s) before.1 in
    let diagonals = diagonals-same _ columns.1 in
    (ap (λ t. diagonal_round (column_round t)) before.0 ∙ ap diagonal_round columns.0 ∙ diagonals.0, diagonals.1)

key-same : (seed : List ℕ) → length seed ≡ 32 → words seed ≡ key_of seed
unfolding u32_at
key-same seed long =
    let little : (a b c d : ℕ) → a + 256 * b + 256 ^ 2 * c + 256 ^ 3 * d ≡ a + b * 2 ^ 8 + c * 2 ^ 16 + d * 2 ^ 24 =
    λ a b c d. omega arith in
    by_words 32 (λ s. words s ≡ key_of s) seed long (simp little (refl {a = key_of seed}))

start-same : (seed : List ℕ) (stream c : ℕ) → length seed ≡ 32 → stream < 2 ^ 64 → c < 2 ^ 64
    → start legacy seed (to_le_bytes w64 stream) c ≡ initial_state (key_of seed) c stream
start-same seed stream c long inside below =
    let high : c / 2 ^ 32 % 2 ^ 32 ≡ c / 2 ^ 32 = omega arith in
    rw (key-same seed long, words-to_le_bytes stream inside, high) refl

start-words : (seed : List ℕ) (stream c : ℕ) → Bytes seed → stream < 2 ^ 64 → c < 2 ^ 64
    → Words (initial_state (key_of seed) c stream)
unfolding u32_at
start-words seed stream c fits inside below =
    let key : (i : ℕ) → u32_at seed i < 2 ^ 32 =
    λ i. omega (arith, fits (4 * i), fits (4 * i + 1), fits (4 * i + 2), fits (4 * i + 3)) in
    let low : (x : ℕ) → x % 2 ^ 32 < 2 ^ 32 = λ x. omega arith in
    let high : (x : ℕ) → x < 2 ^ 64 → x / 2 ^ 32 < 2 ^ 32 = λ x less. omega arith in
    words-each (initial_state (key_of seed) c stream)
    (search (key, low, high c below, high stream inside, arith))

-- what a generator's type says of its state
pub record Fits (g : GeneratorState) : Type 0 where
  pub long : length g.seed ≡ 32
  pub bytes : Bytes g.seed
  pub stream : g.stream < 2 ^ 64
  pub below : g.word_pos < positions

-- word k of a block
word-same : (n c k : ℕ) (g : GeneratorState) → Fits g → c < 2 ^ 64 → k < 16
    → block_word n (key_of g.seed) c g.stream k
    ≡ slice_index (mix n (start legacy g.seed (to_le_bytes w64 g.stream) c)) k
unfolding block_word add_states
word-same n c k g fits below within =
    let s = initial_state (key_of g.seed) c g.stream in
    let words = start-words g.seed g.stream c fits.bytes fits.stream below in
    let sum : ℕ → ℕ = λ w. add (slice_index (rounds n s) w) (slice_index s w) in
    ap (λ t. add (slice_index t k) (slice_index s k)) (rounds-same n s words).0
    ∙ sym (get_or-map-range_with_len sum 0 16 k k 0 within (omega arith))
    ∙ ap (λ t. slice_index (mix n t) k) (sym (start-same g.seed g.stream c fits.long fits.stream below))

-- Reads. The generator of `rand_chacha` at the same place, and ours after k words.
abbrev pub theirs : GeneratorState → ChaCha
theirs g = record { key = key_of g.seed; stream = g.stream; word_pos = g.word_pos }

abbrev after : GeneratorState → ℕ → GeneratorState
after g k = at_word_pos g (g.word_pos + k)

after-fits : {g : GeneratorState} (k : ℕ) → Fits g → Fits (after g k)
after-fits k fits = record { long = fits.long; bytes = fits.bytes; stream = fits.stream; below = omega arith }

after-none : (g : GeneratorState) → Fits g → theirs g ≡ theirs (after g 0)
after-none g fits =
    let here : g.word_pos ≡ (g.word_pos + 0) % positions = omega (arith, fits.below) in
    ap (λ w. theirs (record g { word_pos = w })) here

step-same : (n k : ℕ) (g : GeneratorState) → Fits g
    → next_word n (theirs (after g k)) ≡ (word n g (g.word_pos + k), theirs (after g (k + 1)))
step-same n k g fits =
    let w = g.word_pos + k in
    let c = w % positions / 16 in
    let place : w % positions % 16 ≡ w % 16 = omega arith in
    let next : (w % positions + 1) % positions ≡ (g.word_pos + (k + 1)) % positions = omega arith in
    ap₂ (λ x v. (x, theirs (record g { word_pos = v })))
    (ap (block_word n (key_of g.seed) c g.stream) place ∙ word-same n c (w % 16) g fits (omega arith) (omega arith))
    next

next_u32-same : (n : ℕ) (g : GeneratorState) → Fits g
    → next_word n (theirs g) ≡ ((next_u32 n g).0, theirs (next_u32 n g).1)
next_u32-same n g fits =
    let here : g.word_pos + 0 ≡ g.word_pos = omega arith in
    ap (next_word n) (after-none g fits) ∙ step-same n 0 g fits ∙ ap (λ w. (word n g w, theirs (after g 1))) here

next_u64-same : (n : ℕ) (g : GeneratorState) → Fits g
    → u64_via_u32 (next_word n) (theirs g) ≡ ((next_u64 n g).0, theirs (next_u64 n g).1)
next_u64-same n g fits =
    let low = word n g g.word_pos in
    let halves : low + word n g (g.word_pos + 1) * 2 ^ 32 ≡ (next_u64 n g).0 = omega arith in
    ap (λ a. let b = next_word n a.1 in (a.0 + b.0 * 2 ^ 32, b.1)) (next_u32-same n g fits)
    ∙ ap (λ b. (low + b.0 * 2 ^ 32, b.1)) (step-same n 1 g fits)
    ∙ ap (λ x. (x, theirs (after g 2))) halves

words-same : (n k : ℕ) (g : GeneratorState) → Fits g
    → word_bytes (to_le_bytes w32) (next_word n) k (theirs g)
    ≡ (bytes (stream_part (word n g) g.word_pos k), theirs (after g k))
unfolding word_bytes
words-same n zero g fits = ap (λ h. ([], h)) (after-none g fits)
words-same n (suc k) g fits =
    let w = g.word_pos in
    let front = stream_part (word n g) w k in
    let more : k + 1 ≡ suc k = omega arith in
    ap (λ a. let b = next_word n a.1 in (a.0 ++ to_le_bytes w32 b.0, b.1)) (words-same n k g fits)
    ∙ ap (λ b. (bytes front ++ to_le_bytes w32 b.0, b.1)) (step-same n k g fits)
    ∙ ap (λ xs. (xs, theirs (after g (k + 1))))
    (sym (ap bytes (stream_part-add (word n g) w k 1) ∙ bytes-append front (word n g (w + k) ∷ [])))
    ∙ ap (λ m. (bytes (stream_part (word n g) w m), theirs (after g m))) more

fill-same : (n len : ℕ) (g : GeneratorState) → Fits g
    → fill_via_u32 (next_word n) len (theirs g) ≡ ((fill n g len).0, theirs (fill n g len).1)
fill-same n len g fits = ap (first_bytes len) (words-same n ((len + 3) / 4) g fits)

-- after the same calls they are at the same place
calls-same : (n : ℕ) (cs : List Call) (g : GeneratorState) → Fits g
    → (state_after (steps_u32 (next_word n)) cs (theirs g) ≡ theirs (state_after (reads n) cs g))
    × Fits (state_after (reads n) cs g)
calls-same n [] g fits = (refl, fits)
calls-same n (u32_call ∷ cs) g fits =
    let rest = calls-same n cs (after g 1) (after-fits 1 fits) in
    (ap (λ a. state_after (steps_u32 (next_word n)) cs a.1) (next_u32-same n g fits) ∙ rest.0, rest.1)
calls-same n (u64_call ∷ cs) g fits =
    let rest = calls-same n cs (after g 2) (after-fits 2 fits) in
    (ap (λ a. state_after (steps_u32 (next_word n)) cs a.1) (next_u64-same n g fits) ∙ rest.0, rest.1)
calls-same n (bytes_call len ∷ cs) g fits =
    let k = (len + 3) / 4 in
    let rest = calls-same n cs (after g k) (after-fits k fits) in
    (ap (λ a. state_after (steps_u32 (next_word n)) cs a.1) (fill-same n len g fits) ∙ rest.0, rest.1)

-- so all that they will answer is the same
streams-same : (n : ℕ) (g : GeneratorState) → Fits g
    → stream_of (reads n) g ≡ stream_of (steps_u32 (next_word n)) (theirs g)
unfolding stream_of
streams-same n g fits =
    let steps = steps_u32 (next_word n) in
    let at : List Call → GeneratorState = λ cs. state_after (reads n) cs g in
    λ i. record {
      u32_after = fun_ext (λ cs.
          let same = calls-same n cs g fits in
          sym (ap (λ h. (steps.next_u32 h).0) same.0 ∙ ap (λ a. a.0) (next_u32-same n (at cs) same.1))) i;
      u64_after = fun_ext (λ cs.
          let same = calls-same n cs g fits in
          sym (ap (λ h. (steps.next_u64 h).0) same.0 ∙ ap (λ a. a.0) (next_u64-same n (at cs) same.1))) i;
      bytes_after = fun_ext (λ cs. fun_ext (λ len.
          let same = calls-same n cs g fits in
          sym (ap (λ h. (steps.fill_bytes len h).0) same.0 ∙ ap (λ a. a.0) (fill-same n len (at cs) same.1)))) i;
    }

-- the same of two generators that are at that place
pub streams-agree : {ours : GeneratorState} {other : ChaCha} {n m : ℕ} (g : GeneratorState) → Fits g
    → ours ≡ g → other ≡ theirs g → n ≡ m → stream_of (reads n) ours ≡ stream_of (steps_u32 (next_word m)) other
streams-agree {n = n} g fits ours_is other_is same = rw (ours_is, other_is, ← same) (streams-same n g fits)
