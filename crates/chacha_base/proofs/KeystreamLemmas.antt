-- Bytes combined with a stream, and bytes of a stream. The proofs of cores, the byte stream, generators and callers
-- cite these. Read `xor_stream` and `stream_part` of `ChaCha` first.
use Rattle.std.proofs.Common.{◌≡◌, ℕ, zero, suc, ◌+◌, ◌*◌, ◌/◌, ◌%◌, ◌<◌, ◌≤◌, List, take, drop, [], ◌∷◌, ◌++◌, length, slice_index, slice_index_or, bit_xor, replicate, arith, refl, sym, ap, ap₂, ◌∙◌, append_assoc, append-nil, take-add, Some, get_or-take, get_or-drop, length-take-le, take_at, take_all, drop_at, drop-drop}
use Rattle.std.proofs.Math.Nat.{mod-add-mod}
use Rattle.std.specs.Int.Bits.{xor_assoc, xor_self, xor_zero_l, xor_zero_r}
use Rattle.std.proofs.lemmas.List.{get_or-replicate, length-replicate, take-replicate, drop_all}
use Rattle.std.proofs.lemmas.Slice.{drop-put_mid}
use borrow.Rule.Slice.PartMut.{put_mid}
use Rattle.chacha_base.specs.ChaCha.{block, keystream, xor_stream, stream_part}
use Rattle.chacha_base.proofs.ListLemmas.{Written, written_more, part_long}

-- two streams that agree on the bytes that are combined
pub xor_stream-same : (f g : ℕ → ℕ) (p q : ℕ) (xs : List ℕ) → ((i : ℕ) → i < length xs → f (p + i) ≡ g (q + i))
    → xor_stream f p xs ≡ xor_stream g q xs
xor_stream-same f g p q [] same = refl
xor_stream-same f g p q (x ∷ xs) same =
    let p0 : p ≡ p + 0 = omega arith in
    let q0 : q + 0 ≡ q = omega arith in
    ap₂ (λ b t. bit_xor x b ∷ t) (ap f p0 ∙ same 0 (omega arith) ∙ ap g q0)
    (xor_stream-same f g (p + 1) (q + 1) xs (λ i less.
    let p1 : p + 1 + i ≡ p + suc i = omega arith in
    let q1 : q + suc i ≡ q + 1 + i = omega arith in
    ap f p1 ∙ same (suc i) (omega arith) ∙ ap g q1))

module _ (stream : ℕ → ℕ) where
  -- bytes that are combined one by one
  pub xor_stream-is : (p : ℕ) (xs ys : List ℕ) → length ys ≡ length xs
      → ((i : ℕ) → i < length xs → slice_index ys i ≡ bit_xor (slice_index xs i) (stream (p + i)))
      → ys ≡ xor_stream stream p xs
  xor_stream-is p [] [] long each = refl
  xor_stream-is p (x ∷ xs) (y ∷ ys) long each =
      let here : p + 0 ≡ p = omega arith in
      ap₂ ◌∷◌ (each 0 (omega arith) ∙ ap (λ q. bit_xor x (stream q)) here)
      (xor_stream-is (p + 1) xs ys (omega arith) (λ i less.
      let next : p + suc i ≡ p + 1 + i = omega arith in
      each (suc i) (omega arith) ∙ ap (λ q. bit_xor (slice_index xs i) (stream q)) next))
  xor_stream-is p _ _ long each = absurd (omega arith)

  -- a part after another
  pub xor_stream-append : (p : ℕ) (xs ys : List ℕ)
      → xor_stream stream p (xs ++ ys) ≡ xor_stream stream p xs ++ xor_stream stream (p + length xs) ys
  xor_stream-append p [] ys = let here : p + 0 ≡ p = omega arith in rw here refl
  xor_stream-append p (x ∷ xs) ys =
      let next : p + 1 + length xs ≡ p + suc (length xs) = omega arith in
      rw (xor_stream-append (p + 1) xs ys, next) refl

  -- two parts, one after another
  pub xor_stream-parts : {q : ℕ} {all new_front new_rest : List ℕ} (p : ℕ) (front rest : List ℕ)
      → all ≡ front ++ rest → q ≡ p + length front
      → new_front ≡ xor_stream stream p front → new_rest ≡ xor_stream stream q rest
      → new_front ++ new_rest ≡ xor_stream stream p all
  xor_stream-parts p front rest parts place first then =
      ap₂ ◌++◌ first (then ∙ ap (λ k. xor_stream stream k rest) place)
      ∙ sym (ap (xor_stream stream p) parts ∙ xor_stream-append p front rest)

  pub length-xor_stream : (p : ℕ) (xs : List ℕ) → length (xor_stream stream p xs) ≡ length xs
  length-xor_stream p [] = refl
  length-xor_stream p (x ∷ xs) = ap suc (length-xor_stream (p + 1) xs)

  -- one more part of bytes that are combined part by part
  pub xor_stream-more : {e : ℕ} {now part : List ℕ} (p a k : ℕ) (old : List ℕ) → e ≡ a + k → e ≤ length old
      → now ≡ xor_stream stream p (take a old) ++ drop a old → part ≡ xor_stream stream (p + a) (take k (drop a now))
      → put_mid a k now part ≡ xor_stream stream p (take e old) ++ drop e old
  xor_stream-more {e} {now} p a k old ends inside before done =
      let made = xor_stream stream p (take a old) in
      let size : length (take a old) ≡ a = length-take-le a old (omega arith) in
      let front : length made ≡ a = length-xor_stream p (take a old) ∙ size in
      let kept : take a now ≡ made = ap (take a) before ∙ take_at made (drop a old) a front in
      let rest : drop a now ≡ drop a old = ap (drop a) before ∙ drop_at made (drop a old) a front in
      rw (ends, take-add a k old, xor_stream-append p (take a old) (take k (drop a old)), size, append_assoc)
      (ap₂ ◌++◌ kept (ap₂ ◌++◌ (rw rest at done) (ap (drop k) rest ∙ drop-drop k a old)))

  -- all of the bytes
  pub xor_stream-whole : (p n : ℕ) (xs : List ℕ) → length xs ≤ n
      → xor_stream stream p (take n xs) ++ drop n xs ≡ xor_stream stream p xs
  xor_stream-whole p n xs all =
      ap₂ (λ front rest. xor_stream stream p front ++ rest) (take_all n xs all) (drop_all n xs all) ∙ append-nil _

  -- zeros combined with a stream are the stream
  pub xor_stream-zeros : (p n : ℕ) → xor_stream stream p (replicate n 0) ≡ stream_part stream p n
  xor_stream-zeros p zero = refl
  xor_stream-zeros p (suc n) = ap₂ ◌∷◌ (xor_zero_l (stream p)) (xor_stream-zeros (p + 1) n)

  pub length-stream_part : (p n : ℕ) → length (stream_part stream p n) ≡ n
  length-stream_part p n =
      ap length (sym (xor_stream-zeros p n)) ∙ length-xor_stream p (replicate n 0) ∙ length-replicate n 0

  -- a list whose elements are a stream's
  pub streamed_is : (p n : ℕ) (xs : List ℕ) → length xs ≡ n
      → ((i : ℕ) → i < n → slice_index xs i ≡ stream (p + i)) → xs ≡ stream_part stream p n
  streamed_is p n xs long each =
      xor_stream-is p (replicate n 0) xs (long ∙ sym (length-replicate n 0)) (λ i less.
      let inside : i < n = omega (arith, less, length-replicate {A = ℕ} n 0) in
      each i inside
      ∙ sym (ap (λ z. bit_xor z (stream (p + i))) (get_or-replicate n i 0 0 inside) ∙ xor_zero_l (stream (p + i))))
      ∙ xor_stream-zeros p n

  -- m elements, and then n
  pub stream_part-add : (p m n : ℕ)
      → stream_part stream p (m + n) ≡ stream_part stream p m ++ stream_part stream (p + m) n
  stream_part-add p zero n =
      let none : 0 + n ≡ n = omega arith in let here : p + 0 ≡ p = omega arith in rw (none, here) refl
  stream_part-add p (suc m) n =
      let more : suc m + n ≡ suc (m + n) = omega arith in
      let next : p + 1 + m ≡ p + suc m = omega arith in
      rw (more, stream_part-add (p + 1) m n, next) refl

-- two streams that agree where they are read
pub stream_part-same : (f g : ℕ → ℕ) (p q n : ℕ) → ((i : ℕ) → i < n → f (p + i) ≡ g (q + i))
    → stream_part f p n ≡ stream_part g q n
stream_part-same f g p q n same =
    let size : length {A = ℕ} (replicate n 0) ≡ n = length-replicate n 0 in
    sym (xor_stream-zeros f p n)
    ∙ xor_stream-same f g p q (replicate n 0) (λ i less. same i (omega (arith, less, size)))
    ∙ xor_stream-zeros g q n

-- to apply a keystream twice is to leave the bytes alone
pub xor_stream-xor_stream : (stream : ℕ → ℕ) (p : ℕ) (xs : List ℕ) → xor_stream stream p (xor_stream stream p xs) ≡ xs
xor_stream-xor_stream stream p [] = refl
xor_stream-xor_stream stream p (x ∷ xs) =
    ap₂ ◌∷◌ (xor_assoc x (stream p) (stream p) ∙ ap (bit_xor x) (xor_self (stream p)) ∙ xor_zero_r x)
    (xor_stream-xor_stream stream (p + 1) xs)

-- the first n of bytes that are combined
pub take-xor_stream : (stream : ℕ → ℕ) (p n : ℕ) (xs : List ℕ)
    → take n (xor_stream stream p xs) ≡ xor_stream stream p (take n xs)
take-xor_stream stream p zero xs = refl
take-xor_stream stream p (suc n) [] = refl
take-xor_stream stream p (suc n) (x ∷ xs) =
    ap (λ t. bit_xor x (stream p) ∷ t) (take-xor_stream stream (p + 1) n xs)

-- those from byte n on, combined with the stream from n bytes on
pub drop-xor_stream : (stream : ℕ → ℕ) (p n : ℕ) (xs : List ℕ)
    → drop n (xor_stream stream p xs) ≡ xor_stream stream (p + n) (drop n xs)
drop-xor_stream stream p zero xs = let here : p + 0 ≡ p = omega arith in rw here refl
drop-xor_stream stream p (suc n) [] = refl
drop-xor_stream stream p (suc n) (x ∷ xs) =
    let next : p + 1 + n ≡ p + suc n = omega arith in rw (drop-xor_stream stream (p + 1) n xs, next)

-- the window of n bytes from byte m on, as of a slice
pub window-xor_stream : (stream : ℕ → ℕ) (p m n : ℕ) (xs : List ℕ)
    → take n (drop m (xor_stream stream p xs)) ≡ xor_stream stream (p + m) (take n (drop m xs))
window-xor_stream stream p m n xs = rw (drop-xor_stream, take-xor_stream)

-- the first n of a stream's bytes, or of a generator's words
pub take-stream_part : (stream : ℕ → ℕ) (p n k : ℕ) → n ≤ k → take n (stream_part stream p k) ≡ stream_part stream p n
take-stream_part stream p n k inside =
    let zeros = take-replicate {X = ℕ} n k 0 inside in
    rw (← xor_stream-zeros stream p k, take-xor_stream, zeros, xor_stream-zeros stream p n)

module _ (modulus : ℕ) (block : ℕ → List ℕ) where
  -- a counter that has wrapped gives the same stream
  pub keystream-wrapped : (c p : ℕ) (xs : List ℕ) → p ≡ 64 * c
      → xor_stream (keystream modulus block) (64 * (c % modulus)) xs ≡ xor_stream (keystream modulus block) p xs
  keystream-wrapped c p xs place =
      let stream = keystream modulus block in
      let k = c % modulus in
      xor_stream-same stream stream (64 * k) p xs (λ i less.
      let near : (64 * k + i) / 64 ≡ k + i / 64 = omega arith in
      let far : (p + i) / 64 ≡ c + i / 64 = omega arith in
      let near_place : (64 * k + i) % 64 ≡ i % 64 = omega arith in
      let far_place : (p + i) % 64 ≡ i % 64 = omega arith in
      rw (near, far, near_place, far_place, mod-add-mod c modulus (i / 64)) refl)

  -- byte j of the block of a counter, which wraps
  pub keystream_byte : (c j : ℕ) → j < 64 → slice_index (block (c % modulus)) j ≡ keystream modulus block (64 * c + j)
  keystream_byte c j inside =
      let which : (64 * c + j) / 64 ≡ c = omega arith in
      let place : (64 * c + j) % 64 ≡ j = omega arith in
      rw (which, place) refl

  -- bytes combined with a part of a counter's block, from its byte j on
  pub xor_stream-part : (c j : ℕ) (part xs : List ℕ) → j + length xs ≤ 64
      → ((i : ℕ) → i < length xs → slice_index part i ≡ slice_index (block (c % modulus)) (j + i))
      → xor_stream (slice_index part) 0 xs ≡ xor_stream (keystream modulus block) (64 * c + j) xs
  xor_stream-part c j part xs fits same =
      xor_stream-same (slice_index part) (keystream modulus block) 0 (64 * c + j) xs (λ i less.
      let here : 0 + i ≡ i = omega arith in
      let place : 64 * c + (j + i) ≡ 64 * c + j + i = omega arith in
      ap (slice_index part) here ∙ same i less
      ∙ keystream_byte c (j + i) (omega arith) ∙ ap (keystream modulus block) place)

  -- bytes combined with the front of a counter's block
  pub xor_stream-block : (c : ℕ) (key xs : List ℕ) → key ≡ block (c % modulus) → length xs ≤ 64
      → xor_stream (slice_index key) 0 xs ≡ xor_stream (keystream modulus block) (64 * c) xs
  xor_stream-block c key xs made fits =
      let front : 64 * c + 0 ≡ 64 * c = omega arith in
      xor_stream-part c 0 key xs (omega arith) (λ i less.
      let here : i ≡ 0 + i = omega arith in ap₂ slice_index made here)
      ∙ ap (λ p. xor_stream (keystream modulus block) p xs) front

-- element i of a list of blocks, combined with the block of the i-th counter from c on
abbrev pub combined : (modulus : ℕ) (block : ℕ → List ℕ) (c : ℕ) (blocks : List (List ℕ)) → ℕ → List ℕ
combined modulus block c blocks i = xor_stream (slice_index (block ((c + i) % modulus))) 0 (slice_index_or blocks i [])

-- a list of blocks of which the first `a` are combined, from the counter `first` on; c is the counter behind them
pub record AreCombined (modulus : ℕ) (block : ℕ → List ℕ) (first : ℕ) (old : List (List ℕ)) (a c : ℕ)
    (now : List (List ℕ)) : Type 0 where
  pub counter : (i : ℕ) → (c + i) % modulus ≡ (first + (a + i)) % modulus
  pub done : Written (combined modulus block first old) a now
  pub rest : drop a now ≡ drop a old

-- k blocks more
pub blocks-more : {modulus first a c d n : ℕ} {block other : ℕ → List ℕ} {old now : List (List ℕ)} (k : ℕ)
    (part : List (List ℕ)) → other ≡ block → AreCombined modulus block first old a c now
    → (a + k ≤ length now) × (a + k ≡ n) × (length part ≡ length (take k (drop a now)))
    → Written (combined modulus other c (take k (drop a now))) (length (take k (drop a now))) part
    → d ≡ (c + length (take k (drop a now))) % modulus → AreCombined modulus block first old n d (put_mid a k now part)
blocks-more {modulus} {first} {a} {c} {block = block} {old = old} {now} k part alike before room made moved =
    let size = part_long a k now room.0 in
    let inside : a ≤ length now = omega arith in
    rw (← room.1) record {
      counter = λ i.
          let here : c + k + i ≡ c + (k + i) = omega arith in
          let there : a + (k + i) ≡ a + k + i = omega arith in
          rw (moved, size, mod-add-mod (c + k) modulus i, here, before.counter (k + i), there) refl;
      done = written_more (combined modulus block first old) a now part inside (room.2 ∙ size) before.done (λ i less.
          made i (omega (arith, less, size)) ∙ ap Some
          (rw (alike, before.counter i, before.rest, get_or-take k (drop a old) i [] less, get_or-drop) refl));
      rest = drop-put_mid a k now part (a + k) (omega arith) inside (room.2 ∙ size)
          ∙ sym (drop-drop k a now) ∙ ap (drop k) before.rest ∙ drop-drop k a old;
    }
