-- States of sixteen words: the counter, the words that stay, and the blocks from a state on. The proofs of the
-- kernel, of cores and of generators cite these; proofs of your own backend find them in `BackendLaws`. Read `State`
-- first.
use Rattle.std.proofs.Common.{◌≡◌, ℕ, ◌+◌, ◌*◌, ◌/◌, ◌%◌, ◌^◌, ◌<◌, ◌≤◌, List, [], ◌∷◌, ◌++◌, length, take, drop, slice_index, arith, refl, ap, ap₂, ◌∙◌, set, mod-eq_of_lt, take_at, drop_at, slice_get, Some}
use Rattle.std.proofs.Math.Nat.{mod-add-mod, mod-mod}
use Rattle.std.proofs.lemmas.List.FromFn.{length-map-range_with_len, get_or-map-range_with_len, fill_by_all}
use Rattle.std.proofs.lemmas.Option.{slice_get-get_or, get_or_from_slice_get}
use borrow.Rule.Slice.PartMut.{put_mid}
use lib.Lanes.{chunk, put_chunk, zip2}
use Rattle.std.specs.Int.Bits.{bit_and, bit_or, and_zero_r, or_zero_l, or_zero_r}
use Rattle.std.proofs.lemmas.Nat.{and_mask}
use Rattle.chacha_base.specs.ChaCha.{Layout, ietf, legacy, modulus, counter_words, bytes, words, constants, start, rounds, add_states, mix, add}
use Rattle.chacha_base.specs.State.{row_counter, row_at, state_counter, fixed_words, state_of, state_at, counter_after, state_after, state_block, next_block, AreNextBlocks, next_word, next_words}
use Rattle.chacha_base.proofs.ListLemmas.{words_of, by_words, one_more, written_more}

-- each word is below 2 ^ 32
abbrev pub Words : List ℕ → Type 0
Words s = (i : ℕ) → slice_index s i < 2 ^ 32

-- what holds of a written-out list of n words in both layouts holds of each list of n words
pub by_layout : (n : ℕ) (P : Layout → List ℕ → Type 0) (layout : Layout) (s : List ℕ) → length s ≡ n
    → P ietf (words_of n s) → P legacy (words_of n s) → P layout s
by_layout n P ietf s long first second = by_words n (P ietf) s long first
by_layout n P legacy s long first second = by_words n (P legacy) s long second

-- the two words of a counter
halves : (c : ℕ) → c % 2 ^ 32 + 2 ^ 32 * (c / 2 ^ 32 % 2 ^ 32) ≡ c % 2 ^ 64
halves c = omega arith

-- a counter that has wrapped has the same words
counter_words-wrapped : (layout : Layout) (c : ℕ) → counter_words layout (c % modulus layout) ≡ counter_words layout c
counter_words-wrapped ietf c =
    let word : c % 2 ^ 32 % 2 ^ 32 ≡ c % 2 ^ 32 = omega arith in rw word refl
counter_words-wrapped legacy c =
    let low : c % 2 ^ 64 % 2 ^ 32 ≡ c % 2 ^ 32 = omega arith in
    let high : c % 2 ^ 64 / 2 ^ 32 % 2 ^ 32 ≡ c / 2 ^ 32 % 2 ^ 32 = omega arith in rw (low, high) refl

-- all bits of a word; what of a word a mask of all and of no bits keeps
abbrev pub ones : ℕ
ones = 4294967295

or_ones : (w : ℕ) → w < 2 ^ 32 → bit_or (bit_and w ones) 0 ≡ w
or_ones w fits = or_zero_r _ ∙ and_mask w 32 ∙ mod-eq_of_lt fits

or_none : (w c : ℕ) → bit_or (bit_and w 0) c ≡ c
or_none w c = ap (λ a. bit_or a c) (and_zero_r w) ∙ or_zero_l c

module _ (layout : Layout) where
  pub state_counter-below : (s : List ℕ) → length s ≡ 16 → Words s → state_counter layout s < modulus layout
  state_counter-below s long fits =
      let low : slice_index s 12 < 2 ^ 32 = fits 12 in
      let high : slice_index s 13 < 2 ^ 32 = fits 13 in
      by_layout 16 (λ l t. state_counter l t < modulus l) layout s long low (omega arith)

  -- another counter, and the same other words
  pub state_counter-state_at : (c : ℕ) (s : List ℕ) → length s ≡ 16
      → state_counter layout (state_at layout c s) ≡ c % modulus layout
  state_counter-state_at c s long =
      by_layout 16 (λ l t. state_counter l (state_at l c t) ≡ c % modulus l) layout s long refl (halves c)

  pub fixed_words-state_at : (c : ℕ) (s : List ℕ) → length s ≡ 16
      → fixed_words layout (state_at layout c s) ≡ fixed_words layout s
  fixed_words-state_at c s long =
      by_layout 16 (λ l t. fixed_words l (state_at l c t) ≡ fixed_words l t) layout s long refl refl

  pub length-state_at : (c : ℕ) (s : List ℕ) → length s ≡ 16 → length (state_at layout c s) ≡ 16
  length-state_at c s long = by_layout 16 (λ l t. length (state_at l c t) ≡ 16) layout s long refl refl

  -- a state whose last row has another counter at its front
  pub state_at-written : (c : ℕ) (s row : List ℕ) → length s ≡ 16 → row ≡ row_at layout c (take 4 (drop 12 s))
      → put_mid 12 4 s row ≡ state_at layout c s
  state_at-written c s row long same =
      rw same (by_layout 16 (λ l t. put_mid 12 4 t (row_at l c (take 4 (drop 12 t))) ≡ state_at l c t) layout s long
      refl refl)

  -- the same, written as one vector
  pub state_at-in_row : (c : ℕ) (s kept row : List ℕ) → length s ≡ 16 → Words s
      → kept ≡ row_at layout 0 (ones ∷ ones ∷ ones ∷ ones ∷ []) → row ≡ row_at layout c (0 ∷ 0 ∷ 0 ∷ 0 ∷ [])
      → put_mid 12 4 s (put_chunk 0 (take 4 (drop 12 s))
      (zip2 bit_or (zip2 bit_and (chunk 0 4 (take 4 (drop 12 s))) kept) row)) ≡ state_at layout c s
  state_at-in_row c s kept row long fits same other =
      let stays : (i : ℕ) → bit_or (bit_and (slice_index s i) ones) 0 ≡ slice_index s i =
      λ i. or_ones (slice_index s i) (fits i) in
      let low = or_none (slice_index s 12) (c % 2 ^ 32) in
      let high = or_none (slice_index s 13) (c / 2 ^ 32 % 2 ^ 32) in
      rw (same, other) (by_layout 16 (λ l t. let old = take 4 (drop 12 t) in
      put_mid 12 4 t (put_chunk 0 old (zip2 bit_or (zip2 bit_and (chunk 0 4 old)
      (row_at l 0 (ones ∷ ones ∷ ones ∷ ones ∷ []))) (row_at l c (0 ∷ 0 ∷ 0 ∷ 0 ∷ [])))) ≡ state_at l c t) layout s long
      (rw (low, stays 13, stays 14, stays 15) refl) (rw (low, high, stays 14, stays 15) refl))

  -- the counter at the front of a state's last row is the state's
  pub row_counter-state : (s : List ℕ) → length s ≡ 16
      → row_counter layout (take 4 (drop 12 s)) ≡ state_counter layout s
  row_counter-state s long =
      by_layout 16 (λ l t. row_counter l (take 4 (drop 12 t)) ≡ state_counter l t) layout s long refl refl

  -- the state at its own counter
  state_at-own : (s : List ℕ) → length s ≡ 16 → Words s → state_at layout (state_counter layout s) s ≡ s
  state_at-own s long fits =
      let x = slice_index s 12 in
      let y = slice_index s 13 in
      let low : x < 2 ^ 32 = fits 12 in
      let high : y < 2 ^ 32 = fits 13 in
      let same_low : (x + 2 ^ 32 * y) % 2 ^ 32 ≡ x = omega arith in
      let same_high : (x + 2 ^ 32 * y) / 2 ^ 32 % 2 ^ 32 ≡ y = omega arith in
      by_layout 16 (λ l t. state_at l (state_counter l t) t ≡ t) layout s long
      (rw (mod-eq_of_lt low) refl) (rw (same_low, same_high) refl)

  -- the state so many blocks on
  pub fixed_words-state_after : (i : ℕ) (s t : List ℕ) → length s ≡ 16 → t ≡ state_after layout i s
      → fixed_words layout t ≡ fixed_words layout s
  fixed_words-state_after i s t long moved = rw moved (fixed_words-state_at (counter_after layout s i) s long)

  pub state_counter-state_after : (i : ℕ) (s t : List ℕ) → length s ≡ 16 → t ≡ state_after layout i s
      → state_counter layout t ≡ (state_counter layout s + i) % modulus layout
  state_counter-state_after i s t long moved =
      rw moved (state_counter-state_at (counter_after layout s i) s long
      ∙ mod-mod (state_counter layout s + i) (modulus layout))

  -- no blocks on
  pub state_after-zero : (s : List ℕ) → length s ≡ 16 → Words s → state_after layout 0 s ≡ s
  state_after-zero s long fits =
      let none : state_counter layout s + 0 ≡ state_counter layout s = omega arith in
      ap (λ c. state_at layout (c % modulus layout) s) none
      ∙ ap (λ c. state_at layout c s) (mod-eq_of_lt (state_counter-below s long fits))
      ∙ state_at-own s long fits

  -- i blocks on, and then j
  pub state_after-state_after : (i j : ℕ) (s : List ℕ) → length s ≡ 16
      → state_after layout j (state_after layout i s) ≡ state_after layout (i + j) s
  state_after-state_after i j s long =
      let c = state_counter layout s in
      let m = modulus layout in
      let sum : c + i + j ≡ c + (i + j) = omega arith in
      ap₂ (λ f k. state_of layout f ((k + j) % m)) (fixed_words-state_after i s _ long refl)
      (state_counter-state_after i s _ long refl)
      ∙ ap (λ k. state_at layout k s) (mod-add-mod (c + i) m j ∙ ap (λ k. k % m) sum)

  -- the state k blocks on from one that is a blocks on
  pub state_after-more : (s t u : List ℕ) (a k e : ℕ) → length s ≡ 16
      → t ≡ state_after layout a s → u ≡ state_after layout k t → a + k ≡ e → u ≡ state_after layout e s
  state_after-more s t u a k e long moved more all =
      more ∙ ap (state_after layout k) moved
      ∙ state_after-state_after a k s long ∙ ap (λ i. state_after layout i s) all

-- the fixed words of a start state, the start state of them, and its counter
module _ (layout : Layout) (key nonce : List ℕ) (c : ℕ) where
  pub start-wrapped : start layout key nonce (c % modulus layout) ≡ start layout key nonce c
  start-wrapped = ap (λ row. constants ++ words key ++ row ++ words nonce) (counter_words-wrapped layout c)

  pub fixed_words-start : length (words key) ≡ 8
      → fixed_words layout (start layout key nonce c) ≡ constants ++ words key ++ words nonce
  fixed_words-start long =
      by_layout 8 (λ l k. fixed_words l (constants ++ k ++ counter_words l c ++ words nonce)
      ≡ constants ++ k ++ words nonce) layout (words key) long refl refl

  pub state_of-start : length (words key) ≡ 8
      → state_of layout (constants ++ words key ++ words nonce) c ≡ start layout key nonce c
  state_of-start long =
      let front : length (constants ++ words key) ≡ 12 = omega arith in
      ap₂ (λ a b. a ++ counter_words layout c ++ b) (take_at (constants ++ words key) (words nonce) 12 front)
      (drop_at (constants ++ words key) (words nonce) 12 front)

  pub state_counter-start : length (words key) ≡ 8
      → state_counter layout (start layout key nonce c) ≡ c % modulus layout
  state_counter-start long =
      by_layout 8 (λ l k. state_counter l (constants ++ k ++ counter_words l c ++ words nonce) ≡ c % modulus l)
      layout (words key) long refl (halves c)

length-mix : (n : ℕ) (s : List ℕ) → length (mix n s) ≡ 16
unfolding add_states
length-mix n s = length-map-range_with_len (λ w. add (slice_index (rounds n s) w) (slice_index s w)) 0 16

module _ (n : ℕ) (layout : Layout) (s : List ℕ) where
  -- the next block is the one at the state's own counter
  pub next_block-zero : next_block n layout s 0 ≡ state_block n layout (fixed_words layout s) (state_counter layout s)
  next_block-zero =
      let c = state_counter layout s in
      let none : c + 0 ≡ c = omega arith in
      let fixed = fixed_words layout s in
      ap (λ row. bytes (mix n (take 12 fixed ++ row ++ drop 12 fixed)))
      (counter_words-wrapped layout (c + 0) ∙ ap (counter_words layout) none)

  -- block i from the state k blocks on is block k + i from the state
  pub next_block-state_after : (k i : ℕ) → length s ≡ 16
      → next_block n layout (state_after layout k s) i ≡ next_block n layout s (k + i)
  next_block-state_after k i long = ap (λ u. bytes (mix n u)) (state_after-state_after layout k i s long)

  -- the words of one block more
  pub next_words-more : (t : List ℕ) (i : ℕ) (now part : List ℕ) → t ≡ state_after layout i s → part ≡ mix n t
      → 16 * i ≤ length now → ((k : ℕ) → k < 16 * i → slice_get now k ≡ Some (next_word n layout s k))
      → (k : ℕ) → k < 16 * i + 16 → slice_get (put_mid (16 * i) 16 now part) k ≡ Some (next_word n layout s k)
  next_words-more t i now part moved made room before =
      let long : length part ≡ 16 = ap length made ∙ length-mix n t in
      written_more (next_word n layout s) (16 * i) now part room long before
      (λ k less.
      let which : (16 * i + k) / 16 ≡ i = omega arith in
      let place : (16 * i + k) % 16 ≡ k = omega arith in
      slice_get-get_or part k 0 (omega (arith, long, less))
      ∙ ap Some (rw (which, place) (ap (λ u. slice_index u k) (made ∙ ap (mix n) moved))))

  -- k blocks more of a state that is a blocks on
  pub next_blocks-more : (t : List ℕ) (a k : ℕ) (now part : List (List ℕ)) → length s ≡ 16
      → t ≡ state_after layout a s → a ≤ length now → length part ≡ k
      → AreNextBlocks n layout s a now → AreNextBlocks n layout t k part
      → AreNextBlocks n layout s (a + k) (put_mid a k now part)
  next_blocks-more t a k now part h moved room long before made =
      written_more (next_block n layout s) a now part room long before
      (λ i less.
      made i less ∙ ap Some (ap (λ u. next_block n layout u i) moved ∙ next_block-state_after a i h))

  -- one block more of a state that is i blocks on
  pub next_block-more : (t : List ℕ) (i : ℕ) (now : List (List ℕ)) (block : List ℕ) → length s ≡ 16
      → t ≡ state_after layout i s → i < length now → block ≡ next_block n layout t 0
      → AreNextBlocks n layout s i now → AreNextBlocks n layout s (i + 1) (set now i block)
  next_block-more t i now block h moved room made before =
      let here : i + 0 ≡ i = omega arith in
      one_more (next_block n layout s) i now block room
      (made ∙ ap (λ u. next_block n layout u 0) moved ∙ next_block-state_after i 0 h ∙ ap (next_block n layout s) here)
      before

  pub next_words-are : (now : List ℕ) → length now ≡ 64
      → ((k : ℕ) → k < 64 → slice_get now k ≡ Some (next_word n layout s k)) → now ≡ next_words n layout s
  unfolding next_words
  next_words-are now long made =
      fill_by_all (next_word n layout s) now 64 0 long (λ k less. get_or_from_slice_get now k _ 0 (made k less))

  pub next_words-at : (i : ℕ) → i < 64 → slice_index (next_words n layout s) i ≡ next_word n layout s i
  unfolding next_words
  next_words-at i less = get_or-map-range_with_len (next_word n layout s) 0 64 i i 0 less (omega arith)
