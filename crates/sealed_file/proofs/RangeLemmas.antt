-- Ranges of a text, by the chunks of its file.
use Rattle.std.proofs.Common.{◌≡◌, ◌<◌, ◌≤◌, ◌+◌, ◌-◌, ◌*◌, ◌/◌, ◌∙◌, ℕ, Bool, List, ◌++◌, Some, IfSome, ◌⊎◌, length, take, drop, min, nat_eq, arith, refl, sym, ap, ap₂, subst, inl, inr, length-append, length-take, length-take-le, length-drop, take-add, take-take, take_all, drop-drop, take_at, Err, IsTrue, IsFalse, true≢false}
use Rattle.std.proofs.lemmas.Bool.{cases_lt}
use Rattle.std.proofs.lemmas.List.{drop-take, take_min}
use Rattle.std.specs.List.{slice_range}
use Rattle.std.specs.Option.{ForSome}
use Rattle.sealed_file.specs.Sealed.{header, chunk, piece, last_of, last_number, sealed, text_of, damage_at, IsNoChunk, IsSealed}
use Rattle.std.specs.declared.result.Result.{Result}
use Rattle.sealed_file.specs.declared.error.Damage.{Damage}
use Rattle.sealed_file.specs.declared.error.IoError.{IoError}
use Rattle.sealed_file.specs.declared.error.ReadError.{ReadError}
use Rattle.sealed_file.specs.declared.error.ReadError.TheVariants.{Read, Damaged}
use Rattle.sealed_file.specs.Ranges.{File, HasText, place, EndsAt, HasChunk, HasRange, empty, part, joined, IsWrong}
use Rattle.sealed_file.proofs.ChunkLemmas.{length-chunk, length-piece-at, chunk-same}
use Rattle.sealed_file.proofs.FileLemmas.{chunk-here, length-sealed, own}
use Rattle.sealed_file.proofs.ListLemmas.{for_some}

-- Numbers, apart from the lists, for speed.

text-of-is : (len : ℕ) → 32 < len → text_of len ≡ len - 32 - 16 * (last_of len + 1)
text-of-is len some = omega (arith, some)

-- what a chunk gives, in a file that ends in or behind the chunk of its text's last byte
pub opened-size : (len i n : ℕ) → last_of len ≡ (text_of len - 1) / 65536 → 65536 * i < text_of len
    → n + 16 ≡ min 65552 (len - place i) → n ≡ min 65536 (text_of len - 65536 * i)
opened-size len i n whole within size =
    let t = text-of-is len (omega (arith, within)) in
    omega (arith, t, whole, within, size)

-- a last chunk that is right
pub last-size : (len i n : ℕ) → i ≡ last_of len → n + 16 ≡ min 65552 (len - place i) → (0 < i → 0 < n)
    → (text_of len ≡ 65536 * i + n) × (last_of len ≡ (text_of len - 1) / 65536)
    × (n ≡ min 65536 (text_of len - 65536 * i))
last-size len i n at size some =
    let t = text-of-is len (omega (arith, size)) in
    let all : text_of len ≡ 65536 * i + n = omega (arith, t, at, size) in (
      all,
      elim (cases_lt 0 i) [
        | inl later ↦ omega (arith, all, at, size, some later)
        | inr first ↦ omega (arith, all, at, size, first)
      ],
      omega (arith, all, at, size),
    )

-- the number of the chunk of a byte of the text
pub number-within : (i len : ℕ) → 65536 * i < text_of len → i ≤ last_of len
number-within i len within =
    let t = text-of-is len (omega (arith, within)) in
    omega (arith, t, within)

-- Of any file.

-- the end of a file
pub ends-at : (f : File) (len i n : ℕ) (buf : List ℕ) → i ≡ last_of len → n + 16 ≡ min 65552 (len - place i)
    → (0 < i → 0 < n) → n ≤ length buf → ForSome f.bytes (λ all. len ≡ length all) → HasChunk f i (take n buf)
    → EndsAt f (text_of len)
unfolding EndsAt
ends-at f len i n buf at size some fits long right = λ all known.
    let same = at ∙ ap last_of (long all known) in (
      take n buf,
      subst (λ i. HasChunk f i (take n buf)) same right,
      (last-size len i n at size some).0 ∙ ap₂ (λ i k. 65536 * i + k) same (sym (length-take-le n buf fits)),
    )

-- what is copied of a chunk's text
pub copied-range : (f : File) (i from n start : ℕ) (text old new : List ℕ) → HasChunk f i text
    → 65536 * i + from ≡ start → n ≤ length text - from → new ≡ take n (drop from text) ++ drop n old
    → HasRange f start (take n new)
copied-range f i from n start text old new right at fits is = elim (cases_lt 0 n) [
  | inl some ↦
      let range = take n (drop from text) in
      let wide : length range ≡ n = length-take-le n (drop from text) (omega (arith, fits, length-drop from text)) in
      subst (λ p. HasRange f p (take n new)) at (subst (HasRange f (65536 * i + from))
      (sym (ap (take n) is ∙ take_at range (drop n old) n wide)) (part i from n text right (omega (arith, fits, some))))
  | inr none ↦
      let nothing : 0 ≡ n = omega (arith, none) in
      subst (λ k. HasRange f start (take k new)) nothing (empty start)
]

-- a part of a piece
piece-part : (text : List ℕ) (i from n : ℕ) → from + n ≤ 65536
    → take n (drop from (piece text i)) ≡ take n (drop (65536 * i + from) text)
piece-part text i from n fits =
    let rest = 65536 - from in
    let all : 65536 ≡ from + rest = omega (arith, fits) in
    ap (λ k. take n (drop from (take k (drop (65536 * i) text)))) all
    ∙ ap (take n) (drop-take from rest (drop (65536 * i) text))
    ∙ take-take n rest (drop from (drop (65536 * i) text)) (omega (arith, fits))
    ∙ ap (take n) (drop-drop from (65536 * i) text)

pub sealed-text : (f : File) (salt text all : List ℕ) → f.bytes ≡ Some all → IsSealed f.key salt text all
    → HasText f text
unfolding HasText
sealed-text f salt text all known is = (salt, all, known, is)

-- Of a sealed file that a reader reads, which has the salt of its header.
module _ (f : File) (len : ℕ)
    (begins : ForSome f.bytes (λ all. (len ≡ length all) × (take 32 all ≡ header f.salt))) (text : List ℕ)
    (reads : HasText f text) where
  known-sealed : (all : List ℕ) × (f.bytes ≡ Some all) × (length f.salt ≡ 19) × (all ≡ sealed f.key f.salt text)
  unfolding HasText
  known-sealed =
      let (salt, all, known, (size, _, is)) = reads in
      let (same, is') = own f.key f.salt salt text all size (begins all known).1 is in
      (all, known, subst (λ s. length s ≡ 19) same size, is')

  length-file : len ≡ 32 + (length text + 16 * (last_number text + 1))
  length-file =
      let (all, known, size, is) = known-sealed in
      (begins all known).0 ∙ ap length is ∙ length-sealed f.key f.salt text size

  pub length-read : text_of len ≡ length text
  length-read = omega (arith, length-file)

  has-chunk : (i : ℕ) → i ≤ last_of len → HasChunk f i (piece text i)
  has-chunk i within =
      let (all, known, size, is) = known-sealed in
      let within' : i ≤ last_number text = omega (arith, within, length-file) in
      let end : last_of len ≡ last_number text = omega (arith, length-file) in (
        λ later. omega (arith, within', later, length-piece-at text i),
        λ b known'.
            let same : b ≡ all = cc in
            ap (λ b. take 65552 (drop (place i) b)) (same ∙ is)
            ∙ chunk-here f.key f.salt text size i (nat_eq i (last_of (length b))) within'
            (ap (nat_eq i) (sym (ap last_of (begins b known').0) ∙ end)),
      )

  range-is : {start : ℕ} {range : List ℕ} → HasRange f start range → range ≡ take (length range) (drop start text)
  range-is (empty start) = refl
  range-is (part i from n t right fits) =
      let (all, known, _, _) = known-sealed in
      let here = right.1 all known in
      let last = nat_eq i (last_of (length all)) in
      let size = length-chunk f.key f.salt i last t in
      let read = length-take 65552 (drop (place i) all) in
      let within : i ≤ last_of len =
      omega (arith, size, ap length here, read, length-drop (place i) all, (begins all known).0) in
      let same = chunk-same f.key f.salt i last t (piece text i) (sym here ∙ (has-chunk i within).1 all known) in
      let wide : length (take n (drop from t)) ≡ n =
      length-take-le n (drop from t) (omega (arith, fits, length-drop from t)) in
      ap (λ xs. take n (drop from xs)) same
      ∙ piece-part text i from n (omega (arith, fits, size, ap length here, read))
      ∙ ap (λ k. take k (drop (65536 * i + from) text)) (sym wide)
  range-is (joined start xs ys front back) =
      ap₂ ◌++◌ (range-is front)
      (range-is back ∙ ap (take (length ys)) (sym (drop-drop (length xs) start text)))
      ∙ sym (take-add (length xs) (length ys) (drop start text))
      ∙ ap (λ k. take k (drop start text)) (sym (length-append xs ys))

  pub reads-text : (start : ℕ) (range : List ℕ) → HasRange f start range
      → range ≡ slice_range text start (start + length range)
  reads-text start range has = range-is has ∙ ap (λ k. take k (drop start text)) (omega arith)

  pub none-wrong : (i : ℕ) (damage : Damage) → i ≤ last_of len → IsWrong f i damage → ⊥
  unfolding IsWrong
  none-wrong i damage within wrong =
      (wrong known-sealed.0 known-sealed.1).1 (piece text i) (has-chunk i within)

  -- so no chunk of it fails
  pub no-error : {T : Type 0} (x : ReadError) (i : ℕ) (may_fail : Bool) → i ≤ last_of len → IsFalse may_fail
      → ((e : IoError) → ◌≡◌ {A = Result T ReadError} (Err x) (Err (Read e)) → IsTrue may_fail)
      → ((d : Damage) → ◌≡◌ {A = Result T ReadError} (Err x) (Err (Damaged d)) → IsWrong f i d) → ⊥
  no-error (Read e) i may_fail within sure fails damaged = true≢false (sym (fails e refl) ∙ sure)
  no-error (Damaged d) i may_fail within sure fails damaged = none-wrong i d within (damaged d refl)

-- What was read where chunk i stands, in a space of its size.
module _ (f : File) (len i n w : ℕ) (new : List ℕ) (last : ℕ) (end : last ≡ last_of len)
    (long : ForSome f.bytes (λ all. len ≡ length all))
    (read : IfSome f.bytes (λ all. take n new ≡ take w (drop (place i) all))) (wide : length new ≡ w)
    (part_of : w ≡ min 65552 (len - place i)) (fits : n ≤ w) where
  is-last : ForSome f.bytes (λ all. nat_eq i last ≡ nat_eq i (last_of (length all)))
  is-last all known = ap (nat_eq i) (end ∙ ap last_of (long all known))

  -- all of it, where the bytes are known
  whole : ForSome f.bytes (λ all. (n ≡ w) × (new ≡ take 65552 (drop (place i) all)))
  whole all known =
      let left = drop (place i) all in
      let read' = for_some f.bytes (λ all. take n new ≡ take w (drop (place i) all)) read all known in
      let size : w ≡ min 65552 (length left) = omega (arith, part_of, long all known, length-drop (place i) all) in
      let count : n ≡ w =
      omega (arith, ap length read', length-take n new, length-take w left, size, wide, fits) in (
        count,
        sym (take_all n new (omega (arith, count, wide))) ∙ read' ∙ ap (λ k. take k left) size ∙ take_min 65552 left,
      )

  pub load-wrong : (damage : Damage) → damage_at i (nat_eq i last) ≡ damage
      → (n < w) ⊎ IsNoChunk f.key f.salt i (nat_eq i last) new → IsWrong f i damage
  unfolding IsWrong
  load-wrong damage says wrong = λ all known. (
    sym says ∙ ap (damage_at i) (is-last all known),
    λ text (some, right). elim wrong [
      | inl short ↦ omega (arith, short, (whole all known).0)
      | inr none ↦ none text some ((whole all known).1 ∙ right all known
          ∙ ap (λ b. chunk f.key f.salt i b text) (sym (is-last all known)))
    ],
  )

  pub load-right : (text : List ℕ) → (0 < i → 0 < length text) → new ≡ chunk f.key f.salt i (nat_eq i last) text
      → HasChunk f i text
  load-right text some is = (
    some,
    λ all known.
        sym (whole all known).1 ∙ is ∙ ap (λ b. chunk f.key f.salt i b text) (is-last all known),
  )
