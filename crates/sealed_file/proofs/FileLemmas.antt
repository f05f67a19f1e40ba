-- What a whole file says of its text.
use Rattle.std.proofs.Common.{◌≡◌, ◌≤◌, ◌+◌, ◌*◌, ◌∙◌, ℕ, suc, Bool, true, false, List, ◌++◌, length, take, drop, nat_eq, arith, sym, ap, subst, append-nil, append_assoc, length-append, take_at, drop_at, take_all, inl, inr, eq-or-lt_of_le, true≢false, eqb-true, eq-eqb}
use Rattle.sealed_file.specs.Ranges.{place}
use Rattle.sealed_file.specs.Sealed.{header, chunk, chunks, piece, last_number, sealed, HasSalt}
use Rattle.sealed_file.proofs.ChunkLemmas.{length-chunks, length-chunk, length-last, full-chunk, length-piece, length-piece-at, chunks-begin}
use Rattle.sealed_file.proofs.HeaderLemmas.{front-is}

module _ (key salt text : List ℕ) (size : length salt ≡ 19) where
  pub length-front : (i : ℕ) → 65536 * i ≤ length text → length (header salt ++ chunks key salt text i) ≡ place i
  length-front i fits =
      length-append (header salt) (chunks key salt text i)
      ∙ omega (arith, size, length-chunks key salt text i fits)

  pub length-sealed : length (sealed key salt text) ≡ 32 + (length text + 16 * (last_number text + 1))
  length-sealed =
      let n = last_number text in
      length-append (header salt ++ chunks key salt text n) (chunk key salt n true (piece text n))
      ∙ omega (
        arith,
        length-front n (omega arith),
        length-chunk key salt n true (piece text n),
        length-last text,
      )

  -- where chunk i stands
  pub chunk-here : (i : ℕ) (last : Bool) → i ≤ last_number text → last ≡ nat_eq i (last_number text)
      → take 65552 (drop (place i) (sealed key salt text)) ≡ chunk key salt i last (piece text i)
  chunk-here i true within same =
      let n = last_number text in
      let here = chunk key salt n true (piece text n) in
      let at : n ≡ i = sym (eqb-true i n (sym same)) in
      subst (λ k. take 65552 (drop (place k) (sealed key salt text)) ≡ chunk key salt k true (piece text k)) at
      (ap (take 65552) (drop_at (header salt ++ chunks key salt text n) here (place n) (length-front n (omega arith)))
      ∙ take_all 65552 here (omega (arith, length-chunk key salt n true (piece text n), length-piece-at text n)))
  chunk-here i false within same = elim (eq-or-lt_of_le within) [
    | inl at ↦ absurd (true≢false (sym (eq-eqb i (last_number text) at) ∙ sym same))
    | inr less ↦
        let before = chunks key salt text i in
        let here = chunk key salt i false (piece text i) in
        let (rest, all) = chunks-begin key salt text (suc i) (omega (arith, less)) in
        ap (λ b. take 65552 (drop (place i) b))
        (all ∙ ap (λ xs. xs ++ rest) (sym (append_assoc (header salt) before here))
        ∙ append_assoc (header salt ++ before) here rest)
        ∙ ap (take 65552) (drop_at (header salt ++ before) (here ++ rest) (place i)
        (length-front i (omega (arith, less))))
        ∙ take_at here rest 65552
        (full-chunk key salt i false (piece text i) (length-piece text i (omega (arith, less))))
  ]

-- a sealed file begins with its header
pub has-salt : (key salt text file : List ℕ) → length salt ≡ 19 → file ≡ sealed key salt text → HasSalt file salt
has-salt key salt text file size is =
    let (rest, begins) = chunks-begin key salt text 0 (omega arith) in
    (rest, size, is ∙ begins ∙ ap (λ head. head ++ rest) (append-nil (header salt)))

-- so it has one salt
pub own : (key salt salt' text file : List ℕ) → length salt' ≡ 19 → take 32 file ≡ header salt
    → file ≡ sealed key salt' text → (salt' ≡ salt) × (file ≡ sealed key salt text)
own key salt salt' text file size begins is =
    let same = ap (drop 13) (sym (front-is file salt' (has-salt key salt' text file size is)) ∙ begins) in
    (same, is ∙ ap (λ s. sealed key s text) same)
