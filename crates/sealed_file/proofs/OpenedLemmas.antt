-- What `opened` says of a file that begins with right chunks.
use Rattle.std.proofs.Common.{◌≡◌, ◌<◌, ◌≤◌, ◌+◌, ◌-◌, ◌*◌, ◌/◌, ◌^◌, ◌∙◌, ℕ, zero, suc, Bool, true, false, ◌&&◌, min, nat_le, Option, Some, None, List, [], ◌++◌, length, take, bytes_eq, IsTrue, IsFalse, arith, refl, sym, ap, ap₂, append-nil, append_assoc, length-append, take-add, take_at, drop_at, take-append-drop, add-one}
use Rattle.std.proofs.lemmas.Bool.{lt-ltb, le-ltb, le-leb, leb-true}
use Rattle.std.proofs.lemmas.Slice.Eq.{bytes_eq-Decides}
use Rattle.sealed_file.specs.declared.error.Damage.{Damage}
use Rattle.sealed_file.specs.declared.error.Damage.TheVariants.{TooLong}
use Rattle.sealed_file.specs.Opened.{decrypted, followed, opened_chunk, opened_from, opened_rest, opened}
use Rattle.sealed_file.specs.Sealed.{header, header_damage, chunk, chunks, piece, last_number, damage_at, IsNoChunk, IsSealed}
use Rattle.sealed_file.proofs.HeaderLemmas.{header-front}
use Rattle.sealed_file.proofs.ChunkLemmas.{chunk-opens, length-chunk, full-chunk, length-piece, length-last, last-piece}

-- Headers.

-- a file that begins with a header
pub opened-header : (key salt rest : List ℕ) → length salt ≡ 19
    → opened key (header salt ++ rest) ≡ opened_rest key salt 0 rest
opened-header key salt rest size =
    let here : header_damage (header salt) ≡ None = rw (le-ltb (length (header salt)) 32 (omega (arith, size))) in
    ap₂ (λ damage more. followed ([], damage) more)
    (header-front (header salt) rest (λ short. absurd (omega (arith, short, size))) ∙ here)
    (ap₂ (λ s r. opened_rest key s 0 r) (take_at salt rest 19 size)
    (drop_at (header salt) rest 32 (omega (arith, size))))

-- One chunk.

least : (i n : ℕ) → (0 < i → 0 < n) → min i 1 ≤ n
least zero n some = omega arith
least (suc i) n some = omega (arith, some (omega arith))

not-both : (a b : Bool) → (a ≡ true → b ≡ true → ⊥) → (a && b) ≡ false
not-both true true wrong = absurd (wrong refl refl)
not-both true false wrong = refl
not-both false b wrong = refl

module _ (key salt : List ℕ) (i : ℕ) (last : Bool) (few : i < 2 ^ 32) where
  pub right-chunk : (bytes text : List ℕ) → (0 < i → 0 < length text) → bytes ≡ chunk key salt i last text
      → opened_chunk key salt i last bytes ≡ (text, None)
  right-chunk bytes text some is =
      let found = decrypted key salt i last bytes in
      let same : found ≡ text = ap (decrypted key salt i last) is ∙ chunk-opens key salt i last text in
      rw (
        lt-ltb i (2 ^ 32) few,
        (bytes_eq-Decides bytes (chunk key salt i last found)).1 (is ∙ ap (chunk key salt i last) (sym same)),
        le-leb (min i 1) (length found) (omega (arith, ap length same, least i (length text) some)),
      ) (ap (λ t. (t, None)) same)

  pub wrong-chunk : (bytes : List ℕ) → IsNoChunk key salt i last bytes
      → opened_chunk key salt i last bytes ≡ ([], Some (damage_at i last))
  wrong-chunk bytes wrong =
      let text = decrypted key salt i last bytes in
      rw (
        lt-ltb i (2 ^ 32) few,
        not-both (bytes_eq bytes (chunk key salt i last text)) (nat_le (min i 1) (length text))
            (λ same may. wrong text (λ later. omega (arith, leb-true (min i 1) (length text) may, later))
            ((bytes_eq-Decides bytes (chunk key salt i last text)).0 same)),
      )

-- The chunks behind.

all-followed : (part : List ℕ × Option Damage) → followed part ([], None) ≡ part
all-followed (text, None) = ap (λ t. (t, None)) (append-nil text)
all-followed (text, Some damage) = refl

followed-twice : (xs ys : List ℕ) (more : List ℕ × Option Damage)
    → followed (xs, None) (followed (ys, None) more) ≡ followed (xs ++ ys, None) more
followed-twice xs ys (zs, damage) = ap (λ t. (t, damage)) (sym (append_assoc xs ys zs))

module _ (key salt : List ℕ) (i : ℕ) where
  opened-next : (bytes rest : List ℕ) → length bytes ≡ 65552 → 0 < length rest
      → opened_rest key salt i (bytes ++ rest)
      ≡ followed (opened_chunk key salt i false bytes) (opened_rest key salt (i + 1) rest)
  opened-next bytes rest size some =
      let n = (length rest - 1) / 65552 in
      let count : (length (bytes ++ rest) - 1) / 65552 ≡ suc n =
      omega (arith, length-append bytes rest, size, some) in
      ap (λ n. opened_from key salt n i (bytes ++ rest)) count
      ∙ ap₂ (λ b r. followed (opened_chunk key salt i false b) (opened_from key salt n (i + 1) r))
      (take_at bytes rest 65552 size) (drop_at bytes rest 65552 size)

  opened-last : (bytes : List ℕ) → length bytes ≤ 65552
      → opened_rest key salt i bytes ≡ opened_chunk key salt i true bytes
  opened-last bytes fits =
      let count : (length bytes - 1) / 65552 ≡ 0 = omega (arith, fits) in
      ap (λ n. opened_from key salt n i bytes) count

  -- what chunk i makes of the file
  pub opened-step : (last : Bool) (bytes rest : List ℕ) → length bytes ≤ 65552 → (IsTrue last → rest ≡ [])
      → (IsFalse last → (length bytes ≡ 65552) × (0 < length rest))
      → (more : List ℕ × Option Damage)
      × (opened_rest key salt i (bytes ++ rest) ≡ followed (opened_chunk key salt i last bytes) more)
  opened-step true bytes rest fits ends goes = (
    ([], None),
    ap (opened_rest key salt i) (ap (λ r. bytes ++ r) (ends refl) ∙ append-nil bytes) ∙ opened-last bytes fits
        ∙ sym (all-followed (opened_chunk key salt i true bytes)),
  )
  opened-step false bytes rest fits ends goes =
      let (size, some) = goes refl in (opened_rest key salt (i + 1) rest, opened-next bytes rest size some)

  -- more than 2^32 chunks
  pub opened-long : (n : ℕ) (rest : List ℕ) → i ≡ 2 ^ 32 → opened_from key salt n i rest ≡ ([], Some TooLong)
  opened-long zero rest is = rw (le-ltb i (2 ^ 32) (omega (arith, is)))
  opened-long (suc n) rest is = rw (le-ltb i (2 ^ 32) (omega (arith, is)))

-- i right chunks, and then what follows
pub opened-front : (key salt text rest : List ℕ) (i : ℕ) → length salt ≡ 19 → 65536 * i ≤ length text → i ≤ 2 ^ 32
    → (0 < i → 0 < length rest)
    → opened key ((header salt ++ chunks key salt text i) ++ rest)
    ≡ followed (take (65536 * i) text, None) (opened_rest key salt i rest)
opened-front key salt text rest zero size long most some =
    ap (λ head. opened key (head ++ rest)) (append-nil (header salt)) ∙ opened-header key salt rest size
opened-front key salt text rest (suc i) size long most some =
    let next = chunk key salt i false (piece text i) in
    let full : length (piece text i) ≡ 65536 = length-piece text i (omega (arith, long)) in
    let more = some (omega arith) in
    ap (opened key) (ap (λ f. f ++ rest) (sym (append_assoc (header salt) (chunks key salt text i) next))
    ∙ append_assoc (header salt ++ chunks key salt text i) next rest)
    ∙ opened-front key salt text (next ++ rest) i size (omega (arith, long)) (omega (arith, most))
    (λ _. omega (arith, length-append next rest, more))
    ∙ ap (followed (take (65536 * i) text, None))
    (opened-next key salt i next rest (full-chunk key salt i false (piece text i) full) more
    ∙ ap (λ part. followed part (opened_rest key salt (i + 1) rest))
    (right-chunk key salt i false (omega (arith, most)) next (piece text i) (λ _. omega (arith, full)) refl))
    ∙ followed-twice (take (65536 * i) text) (piece text i) _
    ∙ ap₂ (λ k t. followed (t, None) (opened_rest key salt k rest)) (add-one i)
    (sym (take-add (65536 * i) 65536 text)
    ∙ ap (λ k. take k text) (let at : 65536 * i + 65536 ≡ 65536 * suc i = omega arith in at))

-- a sealed file has its text, and no damage
pub opened-sealed : (key salt text file : List ℕ) → IsSealed key salt text file → opened key file ≡ (text, None)
opened-sealed key salt text file (size, most, is) =
    let n = last_number text in
    let end = chunk key salt n true (piece text n) in
    let wide = length-chunk key salt n true (piece text n) in
    let left = length-last text in
    ap (opened key) is
    ∙ opened-front key salt text end n size (omega arith) (omega (arith, most)) (λ _. omega (arith, wide))
    ∙ ap (followed (take (65536 * n) text, None)) (opened-last key salt n end (omega (arith, wide, left))
    ∙ right-chunk key salt n true (omega (arith, most)) end (piece text n) (λ later. omega (arith, left, later)) refl)
    ∙ ap (λ t. (t, None)) (ap (λ p. take (65536 * n) text ++ p) (last-piece text)
    ∙ take-append-drop (65536 * n) text)
