-- A buffer that is filled by several reads.
use Rattle.std.proofs.Common.{◌≡◌, ◌≤◌, ◌+◌, ◌∙◌, ◌++◌, drop-drop, ℕ, List, length, take, Some, None, IfSome, sym, ap, ap₂, length-take-le, take_at, drop_at, take-add, drop}
use Rattle.std.proofs.lemmas.List.{take-append-le}
use borrow.Rule.Slice.PartMut.{put_mid}
use Rattle.std.specs.declared.option.Option.{Option}

-- a part of it was read from place a on
pub take-put_mid : (a n k : ℕ) (xs ys : List ℕ) → a ≤ length xs → n ≤ length ys
    → take (a + n) (put_mid a k xs ys) ≡ take a xs ++ take n ys
take-put_mid a n k xs ys inside fits =
    let front = length-take-le a xs inside in
    take-add a n (put_mid a k xs ys)
    ∙ ap₂ ◌++◌ (take_at (take a xs) _ a front)
    (ap (take n) (drop_at (take a xs) _ a front) ∙ take-append-le n ys _ fits)

-- and what it has of the bytes that stand from a place on
pub part-read : (a : Option (List ℕ)) (at n k place : ℕ) (xs ys : List ℕ) → at ≤ length xs → n ≤ length ys
    → IfSome a (λ all. take at xs ≡ take at (drop place all))
    → IfSome a (λ all. take n ys ≡ take n (drop (place + at) all))
    → IfSome a (λ all. take (at + n) (put_mid at k xs ys) ≡ take (at + n) (drop place all))
part-read None at n k place xs ys inside fits before more = tt
part-read (Some all) at n k place xs ys inside fits before more =
    take-put_mid at n k xs ys inside fits
    ∙ ap₂ ◌++◌ before (more ∙ ap (take n) (sym (drop-drop at place all)))
    ∙ sym (take-add at n (drop place all))
