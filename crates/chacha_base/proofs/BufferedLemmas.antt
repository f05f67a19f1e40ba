-- A core and the block in its buffer, as a byte stream keeps them: at which position they are, and at which after more
-- bytes or a seek. The proofs of the byte stream alone cite these. Read `IsBuffered` first.
use Rattle.std.proofs.Common.{◌≡◌, ◌+◌, ◌-◌, ◌*◌, ◌/◌, ◌%◌, ◌<◌, ◌≤◌, ◌∙◌, ℕ, min, zero, suc, Bool, false, true, nat_eq, List, length, refl, take, drop, slice_index, arith, sym, ap, get_or-take, get_or-drop, mod-eq_of_lt}
use Rattle.std.proofs.lemmas.Bool.{false≢true}
use Rattle.std.proofs.lemmas.Bool.Decides.{Decides-eqb}
use Rattle.std.proofs.lemmas.List.{nil_from_length}
use Rattle.std.proofs.Math.Nat.{mod-add-mod}
use Rattle.chacha_base.specs.ChaCha.{keystream, xor_stream}
use Rattle.chacha_base.specs.Cipher.{limit_of}
use Rattle.chacha_base.specs.Buffered.{IsBuffered, left_at, Follow}
use Rattle.chacha_base.proofs.KeystreamLemmas.{xor_stream-same, xor_stream-part, xor_stream-block}

-- n bytes from position p on: p is the front of a block, there is at least one byte, and they end within the limit
pub record Begins (p n limit : ℕ) : Type 0 where
  pub front : p % 64 ≡ 0
  pub some : 0 < n
  pub fits : p + n ≤ limit

-- the bytes of a slice are such bytes, if its `is_empty` is false, p is the front of a block, and they fit
pub begins-not_empty : {empty : Bool} {limit : ℕ} (p n : ℕ) → empty ≡ nat_eq n 0 → empty ≡ false
    → Follow p n limit → Begins p n limit
begins-not_empty p zero is not follow = absurd (false≢true (sym not ∙ is))
begins-not_empty p (suc n) is not follow =
    record { front = follow.front (omega arith); some = omega arith; fits = follow.fits }

-- the same where it is true: there are no bytes, and XORing them with a stream leaves none
pub none-is_empty : {empty : Bool} (n : ℕ) → empty ≡ nat_eq n 0 → empty ≡ true → n ≡ 0
none-is_empty n is ends = (Decides-eqb n 0).0 (sym is ∙ ends)

pub xor_stream-is_empty : {empty : Bool} (f : ℕ → ℕ) (p : ℕ) (xs ys : List ℕ) → length xs ≡ length ys
    → empty ≡ nat_eq (length ys) 0 → empty ≡ true → ys ≡ xor_stream f p xs
xor_stream-is_empty f p xs ys same is ends =
    let none = none-is_empty (length ys) is ends in
    rw (nil_from_length ys none, nil_from_length xs (same ∙ none)) refl

-- len bytes from p on: the rest of a block, up to q; `whole` bytes of whole blocks; `last` bytes of one more
pub record Parts (p len whole last q limit : ℕ) : Type 0 where
  pub blocks : (whole % 64 ≡ 0) × Follow q whole limit
  pub part : {r : ℕ} → r ≡ q + whole → (last < 64) × Follow r last limit
  pub end : {r s : ℕ} → r ≡ q + whole → s ≡ r + last → s ≡ p + len

-- `Parts` of a slice that was split; `first` and `last` are the lengths of `begun` and `end` after calls changed them
pub parts : {p len n begun first rest whole end last q limit : ℕ} → len ≡ n → begun ≡ min len (left_at p)
    → first ≡ begun → rest + begun ≡ n → whole ≡ rest / 64 * 64 → end + rest / 64 * 64 ≡ rest → last ≡ end
    → q ≡ p + first → p + len ≤ limit → Parts p len whole last q limit
parts {p} {n = n} {rest = rest} {q = q} same cut size all blocks behind kept moved fits =
    let left : rest ≡ n - left_at p = omega arith in
    let front : 0 < rest → q % 64 ≡ 0 = λ some. omega arith in
    record {
      blocks = (omega arith, record { front = λ some. front (omega arith); fits = omega arith });
      part = λ next.
          (omega arith, record { front = λ some. let at = front (omega arith) in omega arith; fits = omega arith });
      end = λ next then. omega arith;
    }

-- a core whose counter was set for a position: at a block's front no block is made, and else one
pub at-sought_front : {modulus p counter : ℕ} {block : ℕ → List ℕ} {buffer : List ℕ} → p ≤ limit_of modulus
    → p % 64 ≤ 0 → counter ≡ p / 64 % modulus → IsBuffered modulus block counter buffer p
at-sought_front {modulus} {p} within front here =
    let next : p / 64 ≡ (p + 63) / 64 = omega arith in
    record {
      within = within;
      made = here ∙ ap (λ k. k % modulus) next;
      held = λ some. absurd (omega arith);
    }

pub at-sought_part : {modulus p counter new : ℕ} {block : ℕ → List ℕ} {buffer : List ℕ} → p ≤ limit_of modulus
    → 0 < p % 64 → counter ≡ p / 64 % modulus → new ≡ (counter + 1) % modulus → buffer ≡ block counter
    → IsBuffered modulus block new buffer p
at-sought_part {modulus} {p} {block = block} within part here moved made =
    let next : p / 64 + 1 ≡ (p + 63) / 64 = omega arith in
    let inside : p / 64 < modulus = omega arith in
    record {
      within = within;
      made = moved ∙ ap (λ c. (c + 1) % modulus) here ∙ mod-add-mod (p / 64) modulus 1 ∙ ap (λ k. k % modulus) next;
      held = λ some. made ∙ ap block (here ∙ mod-eq_of_lt inside);
    }

-- from a core and its buffer at a position p on, over any block function that later holds of the core
module _ {modulus : ℕ} {block : ℕ → List ℕ} {counter : ℕ} {buffer : List ℕ} {stored p : ℕ}
    (at : IsBuffered modulus block counter buffer stored) (place : stored ≡ p) where
  -- at a block's front, with bytes still to come, the core's counter is that of the block that begins there
  pub counter-at_front : {n : ℕ} → Begins p n (limit_of modulus) → 64 * counter ≡ p
  counter-at_front begins =
      let next : (stored + 63) / 64 ≡ p / 64 = omega (arith, begins.front) in
      let inside : p / 64 < modulus = omega (arith, begins.some, begins.fits) in
      let here : counter ≡ p / 64 = at.made ∙ ap (λ k. k % modulus) next ∙ mod-eq_of_lt inside in
      omega (arith, begins.front)

  -- bytes combined with the front of that block
  pub xor_stream-front : {made : List ℕ} (xs : List ℕ) → made ≡ block counter
      → Begins p (length xs) (limit_of modulus) → length xs ≤ 64
      → xor_stream (slice_index (take (length xs) made)) 0 xs ≡ xor_stream (keystream modulus block) p xs
  xor_stream-front {made} xs held begins part =
      let here = counter-at_front begins in
      let below : counter < modulus = omega (arith, here, begins.some, begins.fits) in
      xor_stream-same (slice_index (take (length xs) made)) (slice_index made) 0 0 xs (λ i less.
      get_or-take (length xs) made (0 + i) 0 (omega arith))
      ∙ xor_stream-block modulus block counter made xs (held ∙ sym (ap block (mod-eq_of_lt below))) part
      ∙ ap (λ q. xor_stream (keystream modulus block) q xs) here

  -- after m bytes more, for which the core made k blocks
  at-more : {other : ℕ → List ℕ} {made : List ℕ} {new : ℕ} (m k : ℕ) → p + m ≤ limit_of modulus
      → (p + 63) / 64 + k ≡ (p + m + 63) / 64 → new ≡ (counter + k) % modulus
      → (0 < (p + m) % 64 → made ≡ other ((p + m) / 64)) → IsBuffered modulus other new made (stored + m)
  at-more {other} m k fits blocks moved held =
      let sum : (stored + 63) / 64 + k ≡ (stored + m + 63) / 64 = omega arith in
      record {
        within = omega arith;
        made = moved ∙ ap (λ c. (c + k) % modulus) at.made ∙ mod-add-mod ((stored + 63) / 64) modulus k
            ∙ ap (λ b. b % modulus) sum;
        held = λ some. held (omega arith) ∙ ap (λ q. other ((q + m) / 64)) (sym place);
      }

  -- after whole blocks
  pub at-whole : {other : ℕ → List ℕ} {n m new : ℕ} → Begins p n (limit_of modulus) → n % 64 ≡ 0 → m ≡ n
      → new ≡ (counter + n / 64) % modulus → IsBuffered modulus other new buffer (stored + m)
  at-whole {n = n} {m = m} begins whole size moved =
      at-more m (n / 64) (omega (arith, begins.fits)) (omega (arith, begins.front)) moved
      (λ some. absurd (omega (arith, begins.front)))

  -- after a last part, for which one block was made
  pub at-last : {other : ℕ → List ℕ} {made : List ℕ} {n m new : ℕ} → Begins p n (limit_of modulus) → n < 64 → m ≡ n
      → new ≡ (counter + 1) % modulus → made ≡ other counter → IsBuffered modulus other new made (stored + m)
  at-last {other} {m = m} begins part size moved held =
      let here : counter ≡ (p + m) / 64 = omega (arith, counter-at_front begins) in
      at-more m 1 (omega (arith, begins.fits)) (omega (arith, begins.front, begins.some)) moved
      (λ more. held ∙ ap other here)

  -- after more bytes of the buffered block
  pub at-begun : {n m : ℕ} → n ≤ left_at p → m ≡ n → IsBuffered modulus block counter buffer (stored + m)
  at-begun {n} {m} fits size =
      let same : (stored + 63) / 64 ≡ (stored + m + 63) / 64 = omega arith in
      let inside : stored + m ≤ limit_of modulus = omega (arith, at.within) in
      record {
        within = inside;
        made = at.made ∙ ap (λ b. b % modulus) same;
        held = λ some.
            let here : stored / 64 ≡ (stored + m) / 64 = omega arith in
            at.held (omega arith) ∙ ap block here;
      }

  -- bytes combined with what is left of that block
  pub xor_stream-begun : (xs : List ℕ) → length xs ≤ left_at p
      → (let part = take (stored % 64 + length xs - stored % 64) (drop (stored % 64) buffer) in
      xor_stream (slice_index part) 0 xs ≡ xor_stream (keystream modulus block) p xs)
  xor_stream-begun xs fits =
      let whole : 64 * (stored / 64) + stored % 64 ≡ p = omega arith in
      xor_stream-part modulus block (stored / 64) (stored % 64) _ xs (omega arith) (λ i less.
      let inside : stored / 64 < modulus = omega (arith, at.within) in
      get_or-take _ (drop (stored % 64) buffer) i 0 (omega arith) ∙ get_or-drop (stored % 64) buffer i 0
      ∙ ap (λ b. slice_index b (stored % 64 + i)) (at.held (omega arith) ∙ sym (ap block (mod-eq_of_lt inside))))
      ∙ ap (λ q. xor_stream (keystream modulus block) q xs) whole
