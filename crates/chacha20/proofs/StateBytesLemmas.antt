-- Generators as 49 bytes, written part by part and read back. The proofs of `stored` and `deserialize_state` cite
-- these. Read `state_bytes` of `Generator` first.
use Rattle.std.proofs.Common.{inl, inr, ◌≡◌, ℕ, ◌+◌, ◌-◌, ◌/◌, ◌%◌, ◌^◌, ◌<◌, List, [], ◌∷◌, ◌++◌, length, take, drop, slice_index, replicate, arith, refl, ap, ap₂, ◌∙◌, append_assoc, set, take-add, bit_and}
use Rattle.std.proofs.lemmas.Bool.{cases_lt}
use Rattle.std.proofs.lemmas.List.{take_at, drop_at, length-append, length-take, get_or-take, get_or-drop, get_or_past, drop-drop}
use Rattle.std.proofs.lemmas.Nat.{and_mask, le_bytes_8, from_le_bytes-to_le_bytes_8}
use Rattle.std.specs.Int.{w64, to_le_bytes, from_le_bytes}
use borrow.Rule.Slice.PartMut.{put_mid}
use Rattle.chacha20.proofs.StdLemmas.{put_mid-at}
use Rattle.chacha20.specs.Generator.{GeneratorState, positions, state_bytes, of_state_bytes}
use Rattle.chacha_base.proofs.BytesLemmas.{Bytes}
use Rattle.chacha_base.proofs.ListLemmas.{by_words, part_long}
use Rattle.chacha20.proofs.GeneratorLemmas.{generator_is}

-- 49 zeros with a seed and a stream written
pub two_written_length : (seed stream : List ℕ) → length seed ≡ 32 → length stream ≡ 8
    → length (put_mid 32 8 (seed ++ replicate 17 0) stream) ≡ 49
two_written_length seed stream long eight =
    ap length (put_mid-at 32 8 seed (replicate 17 0) stream long) ∙ simp length-append (omega arith)

-- what is written of a generator: the low half of its position w stands before what is above
pub record IsWritten (g : GeneratorState) (s t l : List ℕ) (w : ℕ) : Type 0 where
  pub long : length s ≡ 32
  pub seed : s ≡ g.seed
  pub stream : t ≡ to_le_bytes w64 g.stream
  pub low : l ≡ to_le_bytes w64 (bit_and w (2 ^ 64 - 1))
  pub position : w ≡ g.word_pos

pub state_is : {g : GeneratorState} {s t l : List ℕ} {w : ℕ} → IsWritten g s t l w
    → set (put_mid 40 8 (put_mid 32 8 (s ++ replicate 17 0) t) l) 48 (w / 2 ^ 64) ≡ state_bytes g
state_is {g} {s} {w = w} is =
    rw (is.stream, is.low, and_mask w 64)
    (by_words 32 (λ bs. set (put_mid 40 8 (put_mid 32 8 (bs ++ replicate 17 0) (to_le_bytes w64 g.stream))
    (to_le_bytes w64 (w % 2 ^ 64))) 48 (w / 2 ^ 64)
    ≡ state_bytes (record { seed = bs; stream = g.stream; word_pos = w })) s is.long refl
    ∙ ap₂ (λ bs p. state_bytes (record { seed = bs; stream = g.stream; word_pos = p })) is.seed is.position)

-- out and in again
pub of_state_bytes-state_bytes : (g : GeneratorState) → length g.seed ≡ 32 → g.stream < 2 ^ 64 → g.word_pos < positions
    → of_state_bytes (state_bytes g) ≡ g
of_state_bytes-state_bytes g long below less =
    let w = g.word_pos in
    let all = state_bytes g in
    let rest = to_le_bytes w64 g.stream ++ (to_le_bytes w64 (w % 2 ^ 64) ++ w / 2 ^ 64 ∷ []) in
    let behind : drop 32 all ≡ rest = drop_at g.seed rest 32 long in
    let top : slice_index all 48 ≡ w / 2 ^ 64 = rw (← get_or-drop 32 all 16 0, behind) in
    let low : from_le_bytes w64 (take 8 (drop 40 all)) ≡ w % 2 ^ 64 =
    rw (← drop-drop 8 32 all, behind) (from_le_bytes-to_le_bytes_8 (w % 2 ^ 64) (omega arith)) in
    generator_is _ g (take_at g.seed rest 32 long) (rw behind (from_le_bytes-to_le_bytes_8 g.stream below))
    (omega (arith, low, top))

-- the bytes of a part, and the number of 8
Bytes-part : (front len : ℕ) (bs : List ℕ) → Bytes bs → Bytes (take len (drop front bs))
Bytes-part front len bs fits i =
    elim (cases_lt i len) [
      | inl inside ↦ let here = fits (front + i) in rw
          (get_or-take len (drop front bs) i 0 inside, get_or-drop front bs i 0) here
      | inr outside ↦ rw (get_or_past (take len (drop front bs)) i 0 (omega (arith, length-take len (drop front bs))))
          (omega arith)
    ]

from_le_bytes-below : (bs : List ℕ) → Bytes bs → from_le_bytes w64 bs < 2 ^ 64
from_le_bytes-below bs fits = omega (arith, fits 0, fits 1, fits 2, fits 3, fits 4, fits 5, fits 6, fits 7)

-- in and out again
pub state_bytes-of_state_bytes : (bs : List ℕ) → length bs ≡ 49 → Bytes bs
    → state_bytes (of_state_bytes bs) ≡ take 48 bs ++ (slice_index bs 48 % 16 ∷ [])
state_bytes-of_state_bytes bs long fits =
    let stream = take 8 (drop 32 bs) in
    let low = take 8 (drop 40 bs) in
    let top = slice_index bs 48 in
    let w = (of_state_bytes bs).word_pos in
    let less : from_le_bytes w64 low < 2 ^ 64 = from_le_bytes-below low (Bytes-part 40 8 bs fits) in
    let below : w % 2 ^ 64 ≡ from_le_bytes w64 low = omega arith in
    let above : w / 2 ^ 64 ≡ top % 16 = omega arith in
    let mid = le_bytes_8 stream _ (part_long 32 8 bs (omega arith)) (Bytes-part 32 8 bs fits) refl in
    let last = le_bytes_8 low (w % 2 ^ 64) (part_long 40 8 bs (omega arith)) (Bytes-part 40 8 bs fits) below in
    ap₂ (λ s l. take 32 bs ++ (s ++ (l ++ w / 2 ^ 64 ∷ []))) mid last
    ∙ rw (above, take-add 40 8 bs, take-add 32 8 bs) (simp append_assoc)
