-- What is wrong with a header.
use Rattle.std.proofs.Common.{◌≡◌, ◌≤◌, ◌<◌, ◌∙◌, ℕ, List, [], ◌++◌, Some, inl, inr, IfSome, length, take, drop, codes, arith, sym, ap, subst, append-nil, length-append, length-drop, length-take, length-take-le, take_at, take_all, take-take, le_refl}
use Rattle.std.proofs.lemmas.Bool.{cases_lt, le-ltb}
use Rattle.std.proofs.lemmas.List.{drop_all, take-append-le, take-append-drop}
use Rattle.std.proofs.lemmas.Option.{IfSome_then}
use Rattle.std.specs.declared.option.Option.{Option}
use Rattle.std.specs.Option.{ForSome}
use Rattle.std.specs.Io.KnownBytes.{Consumes}
use Rattle.sealed_file.proofs.ListLemmas.{for_some}
use Rattle.sealed_file.specs.declared.error.Damage.{Damage}
use Rattle.sealed_file.specs.Sealed.{header, header_damage, HasSalt, IsFileDamage}

-- the first 32 bytes, or all that there are, tell
pub header-front : (front rest : List ℕ) → (length front < 32 → rest ≡ [])
    → header_damage (front ++ rest) ≡ header_damage front
header-front front rest all = elim (cases_lt (length front) 32) [
  | inl short ↦ ap header_damage (ap (λ r. front ++ r) (all short) ∙ append-nil front)
  | inr long ↦ rw (
    take-append-le 12 front rest (omega (arith, long)),
    take-append-le 13 front rest (omega (arith, long)),
    le-ltb (length (front ++ rest)) 32 (omega (arith, long, length-append front rest)),
    le-ltb (length front) 32 long,
  )
]

-- bytes behind a magic word
pub salt-behind : (file salt : List ℕ) → file ≡ codes "chacha20seal1" ++ drop 13 file → 32 ≤ length file
    → salt ≡ take 19 (drop 13 file) → HasSalt file salt
salt-behind file salt begins long is =
    let size : length salt ≡ 19 = ap length is ∙ length-take-le 19 (drop 13 file)
    (omega (arith, long, length-drop 13 file)) in (
      drop 19 (drop 13 file),
      size,
      begins
          ∙ ap (λ xs. codes "chacha20seal1" ++ xs)
          (sym (take-append-drop 19 (drop 13 file)) ∙ ap (λ xs. xs ++ drop 19 (drop 13 file)) (sym is)),
    )

-- a header stands in the first 32 bytes
pub front-is : (file salt : List ℕ) → HasSalt file salt → take 32 file ≡ header salt
front-is file salt (rest, size, is) = ap (take 32) is ∙ take_at (header salt) rest 32 (omega (arith, size))

pub begins-with : (a : Option (List ℕ)) (len : ℕ) (front salt : List ℕ) → IfSome a (λ all. len ≡ length all)
    → IfSome a (λ all. front ≡ take 32 all) → HasSalt front salt
    → ForSome a (λ all. (len ≡ length all) × (take 32 all ≡ header salt))
begins-with a len front salt long read has = λ all known. (
  for_some a _ long all known,
  sym (take-take 32 32 all (le_refl 32)) ∙ ap (take 32) (sym (for_some a (λ all. front ≡ take 32 all) read all known))
      ∙ front-is front salt has,
)

-- a reader that gave a header
pub header-read : (a b : Option (List ℕ)) (bytes salt : List ℕ) (n : ℕ) → Consumes a b (take n bytes)
    → length bytes ≡ 32 → HasSalt (take n bytes) salt → Consumes a b (header salt)
header-read a b bytes salt n read size has =
    let front = take n bytes in
    subst (Consumes a b) (sym (take_all 32 front (omega (arith, length-take n bytes, size)))
    ∙ front-is front salt has) read

-- what the first 32 bytes of a file say of it, or all that it has
pub front-damage : (a : Option (List ℕ)) (front : List ℕ) (damage : Damage) → IfSome a (λ all. front ≡ take 32 all)
    → header_damage front ≡ Some damage → IfSome a (λ all. IsFileDamage all damage)
front-damage a front damage read wrong = IfSome_then a read (λ all is. inl (
    ap header_damage (sym (take-append-drop 32 all)) ∙ header-front (take 32 all) (drop 32 all)
    (λ short. drop_all 32 all (omega (arith, short, length-take 32 all))) ∙ ap header_damage (sym is) ∙ wrong))
