-- The number of a chunk and its mark, in the last 5 bytes of its nonce.
use Rattle.std.proofs.Common.{◌≡◌, ◌∙◌, ◌<◌, ◌^◌, ◌++◌, ℕ, Bool, true, false, List, if◌then◌else◌, length, take, drop, arith, refl, sym, ap, get_or, take_at, drop_at}
use Rattle.std.specs.Int.{w32, to_be_bytes, from_be_bytes}
use Rattle.std.proofs.lemmas.Nat.{from_be_bytes-to_be_bytes_4}
use Rattle.sealed_file.specs.Sealed.{chunk_nonce}

split : (xs ys zs vs : List ℕ) → length xs ≡ length ys → xs ++ zs ≡ ys ++ vs → (xs ≡ ys) × (zs ≡ vs)
split xs ys zs vs long same = (
  sym (take_at xs zs (length xs) refl) ∙ ap (take (length xs)) same ∙ take_at ys vs (length xs) (sym long),
  sym (drop_at xs zs (length xs) refl) ∙ ap (drop (length xs)) same ∙ drop_at ys vs (length xs) (sym long),
)

-- the mark of a chunk
abbrev pub mark : Bool → ℕ
mark last = if last then 1 else 0

mark-same : (a b : Bool) → mark a ≡ mark b → a ≡ b
mark-same true true same = refl
mark-same false false same = refl
mark-same true false same = absurd (omega (arith, same))
mark-same false true same = absurd (omega (arith, same))

pub nonce-same : (xs ys : List ℕ) (i j : ℕ) (a b : Bool) → length xs ≡ length ys → i < 2 ^ 32 → j < 2 ^ 32
    → chunk_nonce xs i a ≡ chunk_nonce ys j b → (xs ≡ ys) × (i ≡ j) × (a ≡ b)
nonce-same xs ys i j a b long i_fits j_fits same =
    let (salts, ends) = split xs ys _ _ long same in
    let (numbers, marks) = split (to_be_bytes w32 i) (to_be_bytes w32 j) _ _ refl ends in (
      salts,
      sym (from_be_bytes-to_be_bytes_4 i i_fits) ∙ ap (from_be_bytes w32) numbers ∙ from_be_bytes-to_be_bytes_4 j
          j_fits,
      mark-same a b (ap (λ xs. get_or xs 0 0) marks),
    )
