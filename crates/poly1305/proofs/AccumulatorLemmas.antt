-- The accumulator of a text in parts.
use Rattle.std.proofs.Common.{◌≡◌, ℕ, zero, suc, ◌+◌, ◌-◌, ◌*◌, ◌/◌, ◌%◌, ◌≤◌, ◌<◌, List, [], ◌∷◌, ◌++◌, length, take, drop, get_or, ◌∙◌, sym, ap, refl, arith, length-append, length-drop, ◌≢◌, ap₂, replicate}
use Rattle.std.proofs.lemmas.List.{take_all, drop-drop, drop-append-le, take-append-le, append-nil, length-replicate, nil_from_length}
use Rattle.std.proofs.Math.Seq.{drop-append_seam}
use Rattle.std.specs.List.{slice_range}
use Rattle.std.specs.Int.{div_ceil}
use Rattle.std.specs.Simd.{first_chunks}
use Rattle.poly1305.specs.Poly1305.{prime, number, block, accumulator, r_of, s_of, tag_from, poly1305, padding, State, after}
use Rattle.poly1305.specs.Absorbed.{Absorbed}

-- 16 bytes from 16 * i on
pub take_16 : (xs : List ℕ) (i : ℕ) → slice_range xs (16 * i) (16 * i + 16) ≡ take 16 (drop (16 * i) xs)
take_16 xs i = let e : 16 * i + 16 - 16 * i ≡ 16 = omega arith in ap (λ n. take n (drop (16 * i) xs)) e

pub block_behind : (text : List ℕ) (k n : ℕ) → block text (k + n) ≡ block (drop (16 * k) text) n
block_behind text k n =
    let e : 16 * (k + n) ≡ 16 * k + 16 * n = omega arith in
    ap (λ bs. number (bs ++ 1 ∷ []))
    (take_16 text (k + n) ∙ ap (λ m. take 16 (drop m text)) e
    ∙ ap (take 16) (sym (drop-drop (16 * n) (16 * k) text)) ∙ sym (take_16 (drop (16 * k) text) n))

pub block_front : (xs ys : List ℕ) (n : ℕ) → 16 * n + 16 ≤ length xs → block (xs ++ ys) n ≡ block xs n
block_front xs ys n h =
    let start : 16 * n ≤ length xs = omega arith in
    let room : 16 ≤ length (drop (16 * n) xs) = omega (arith, length-drop (16 * n) xs) in
    ap (λ bs. number (bs ++ 1 ∷ []))
    (take_16 (xs ++ ys) n ∙ ap (take 16) (drop-append-le (16 * n) xs ys start)
    ∙ take-append-le 16 (drop (16 * n) xs) ys room ∙ sym (take_16 xs n))

pub accumulator_behind : (r a : ℕ) (text : List ℕ) (k n : ℕ)
    → accumulator r a text (k + n) ≡ accumulator r (accumulator r a text k) (drop (16 * k) text) n
unfolding accumulator
accumulator_behind r a text k zero = ap (accumulator r a text) (omega arith)
accumulator_behind r a text k (suc n) =
    let e : k + suc n ≡ suc (k + n) = omega arith in
    rw (e, accumulator_behind r a text k n, block_behind text k n) refl

pub accumulator_front : (r a : ℕ) (xs ys : List ℕ) (k : ℕ) → 16 * k ≤ length xs
    → accumulator r a (xs ++ ys) k ≡ accumulator r a xs k
unfolding accumulator
accumulator_front r a xs ys zero h = refl
accumulator_front r a xs ys (suc k) h =
    let below : 16 * k ≤ length xs = omega arith in
    let fits : 16 * k + 16 ≤ length xs = omega arith in
    rw (accumulator_front r a xs ys k below, block_front xs ys k fits) refl

-- a chunk of a slice is a block's bytes
pub first_chunks-at : (xs : List ℕ) (k i : ℕ) (d : List ℕ) → i < k
    → get_or (first_chunks 16 k xs) i d ≡ slice_range xs (16 * i) (16 * i + 16)
first_chunks-at xs zero i d h = absurd (omega arith)
first_chunks-at xs (suc k) zero d h = refl
first_chunks-at xs (suc k) (suc i) d h =
    let below : i < k = omega arith in
    let e : 16 + 16 * i ≡ 16 * suc i = omega arith in
    first_chunks-at (drop 16 xs) k i d below ∙ take_16 (drop 16 xs) i ∙ ap (take 16) (drop-drop (16 * i) 16 xs)
    ∙ ap (λ m. take 16 (drop m xs)) e ∙ sym (take_16 xs (suc i))

-- the state after a piece that fills no block
pub after-short : (key text piece : List ℕ) → length text % 16 + length piece < 16
    → after key (text ++ piece) ≡ record {
      r = r_of key;
      s = s_of key;
      accumulator = accumulator (r_of key) 0 text (length text / 16);
      rest = drop (16 * (length text / 16)) text ++ piece;
    }
after-short key text piece short =
    let k = length text / 16 in
    let fits : 16 * k ≤ length text = omega arith in
    let count : length (text ++ piece) / 16 ≡ k = omega (arith, length-append text piece) in
    rw (count, accumulator_front (r_of key) 0 text piece k fits, drop-append-le (16 * k) text piece fits) refl

-- a piece that begins a block
pub absorbed-whole : (key text piece : List ℕ) → length text % 16 ≡ 0
    → Absorbed key (text ++ piece) (accumulator (r_of key) 0 text (length text / 16)) piece
absorbed-whole key text piece none =
    let k = length text / 16 in
    let long : 16 * k ≡ length text = omega arith in
    let fits : 16 * k ≤ length text = omega arith in (
      k,
      omega (arith, length-append text piece),
      sym (accumulator_front (r_of key) 0 text piece k fits),
      sym (ap (λ n. drop n (text ++ piece)) long ∙ drop-append_seam text piece),
    )

-- a piece that fills the block `whole` and has the bytes `rest` behind it
pub absorbed-block : (key text piece whole rest : List ℕ)
    → whole ++ rest ≡ drop (16 * (length text / 16)) text ++ piece → length whole ≡ 16
    → Absorbed key (text ++ piece)
    (r_of key * (accumulator (r_of key) 0 text (length text / 16) + number (whole ++ 1 ∷ [])) % prime) rest
unfolding accumulator
absorbed-block key text piece whole rest same long =
    let r = r_of key in
    let k = length text / 16 in
    let all = text ++ piece in
    let fits : 16 * k ≤ length text = omega arith in
    let behind : drop (16 * k) all ≡ whole ++ rest = drop-append-le (16 * k) text piece fits ∙ sym same in
    let sizes : length all - 16 * k ≡ length whole + length rest =
    sym (length-drop (16 * k) all) ∙ ap length behind ∙ length-append whole rest in
    let one : block all k ≡ number (whole ++ 1 ∷ []) =
    ap (λ bs. number (bs ++ 1 ∷ []))
    (
    take_16 all k ∙ ap (take 16) behind ∙ take-append-le 16 whole rest (omega arith)
    ∙ take_all 16 whole (omega arith)
    ) in (
      suc k,
      omega (arith, sizes),
      sym (ap (λ a. r * (a + block all k) % prime) (accumulator_front r 0 text piece k fits)
          ∙ ap (λ b. r * (accumulator r 0 text k + b) % prime) one),
      sym (ap (λ n. drop n all) (omega arith) ∙ sym (drop-drop 16 (16 * k) all) ∙ ap (drop 16) behind
          ∙ ap (λ n. drop n (whole ++ rest)) (sym long) ∙ drop-append_seam whole rest),
    )

-- the state after a text, from between its blocks on
pub after-absorbed : (key text : List ℕ) (a : ℕ) (rest : List ℕ) → Absorbed key text a rest
    → after key text ≡ record {
      r = r_of key;
      s = s_of key;
      accumulator = accumulator (r_of key) a rest (length rest / 16);
      rest = drop (16 * (length rest / 16)) rest;
    }
after-absorbed key text a rest (k, fits, a_is, rest_is) =
    let r = r_of key in
    let m = length rest / 16 in
    let count : length text / 16 ≡ k + m = omega (arith, ap length rest_is, length-drop (16 * k) text) in
    let behind : drop (16 * (k + m)) text ≡ drop (16 * m) rest =
    ap (λ n. drop n text) (omega arith) ∙ sym (drop-drop (16 * m) (16 * k) text) ∙ ap (drop (16 * m)) (sym rest_is) in
    let same : accumulator r 0 text (k + m) ≡ accumulator r a rest m =
    accumulator_behind r 0 text k m ∙ ap (λ b. accumulator r b (drop (16 * k) text) m) (sym a_is)
    ∙ ap (λ xs. accumulator r a xs m) (sym rest_is) in
    rw (count, behind, same) refl

-- the state after whole blocks, a piece, and zeros up to a multiple of 16 bytes
module _ (key text piece : List ℕ) {tail : List ℕ} (whole : length text % 16 ≡ 0)
    (back : tail ≡ drop (length piece / 16 * 16) piece) where
  abbrev absorbed : State
  absorbed = record (after key text) {
    accumulator = accumulator (r_of key) (after key text).accumulator piece (length piece / 16);
    rest = tail;
  }

  left : length tail ≡ length piece % 16
  left = omega (arith, ap length back, length-drop (length piece / 16 * 16) piece)

  after-piece : after key (text ++ piece) ≡ absorbed
  after-piece =
      after-absorbed key (text ++ piece) _ piece (absorbed-whole key text piece whole)
      ∙ ap (λ bs. record absorbed { rest = bs }) (ap (λ n. drop n piece) (omega arith) ∙ sym back)

  pub padded-whole : length tail ≡ 0
      → after key (text ++ piece ++ padding (length piece)) ≡ record absorbed { rest = [] }
  padded-whole none =
      let no_zeros : (16 - length piece % 16) % 16 ≡ 0 = omega (arith, left, none) in
      ap (λ n. after key (text ++ piece ++ replicate n 0)) no_zeros ∙ ap (after key) (append-nil (text ++ piece))
      ∙ after-piece ∙ ap (λ bs. record absorbed { rest = bs }) (nil_from_length tail none)

  pub padded-tail : length tail ≢ 0 → (last : List ℕ) → last ≡ tail ++ replicate (16 - length tail) 0
      → after key (text ++ piece ++ padding (length piece)) ≡ record absorbed {
        accumulator = r_of key * (absorbed.accumulator + number (last ++ 1 ∷ [])) % prime;
        rest = [];
      }
  unfolding accumulator
  padded-tail some last made =
      let zeros : List ℕ = replicate (16 - length tail) 0 in
      let long : length last ≡ 16 =
      omega (arith, left, ap length made, length-append tail zeros, length-replicate {A = ℕ} (16 - length tail) 0) in
      let count : 16 - length tail ≡ (16 - length piece % 16) % 16 = omega (arith, left, some) in
      let filled : last ++ [] ≡ (after key (text ++ piece)).rest ++ padding (length piece) =
      append-nil last ∙ made
      ∙ ap₂ ◌++◌ (sym (ap (λ (m : State). m.rest) after-piece)) (ap (λ n. replicate n 0) count) in
      after-absorbed key (text ++ piece ++ padding (length piece)) _ []
      (absorbed-block key (text ++ piece) (padding (length piece)) last [] filled long)
      ∙ ap (λ (m : State). record m {
        accumulator = m.r * (m.accumulator + number (last ++ 1 ∷ [])) % prime;
        rest = [];
      }) after-piece

-- the tag of whole blocks
pub poly1305-whole : (key text : List ℕ) → length text % 16 ≡ 0
    → poly1305 key text ≡ tag_from (s_of key) (after key text).accumulator
poly1305-whole key text none =
    let count : div_ceil (length text) 16 ≡ length text / 16 = omega arith in
    ap (λ n. tag_from (s_of key) (accumulator (r_of key) 0 text n)) count

-- the tag of a text with bytes behind the last whole block
pub poly1305-part : (key text : List ℕ) → 0 < length text % 16
    → poly1305 key text ≡ tag_from (s_of key) (
    r_of key * ((after key text).accumulator + number ((after key text).rest ++ 1 ∷ [])) % prime
    )
unfolding accumulator
poly1305-part key text some =
    let k = length text / 16 in
    let count : div_ceil (length text) 16 ≡ suc k = omega arith in
    let few : length (drop (16 * k) text) ≤ 16 = omega (arith, length-drop (16 * k) text) in
    let last : block text k ≡ number (drop (16 * k) text ++ 1 ∷ []) =
    ap (λ bs. number (bs ++ 1 ∷ [])) (take_16 text k ∙ take_all 16 (drop (16 * k) text) few) in
    rw (count, last) refl
