-- What isn't about ChaCha: parts of lists, what a loop over writes wrote, and calls that are accepted or refused.
use Rattle.std.proofs.Common.{◌≡◌, ◌+◌, ◌∙◌, ℕ, List, ◌++◌, length, take, drop, Result, Ok, Err, OnOk, IsOk, refl, sym, ap, ap₂, subst, take_at, drop_at}
use Rattle.std.proofs.lemmas.Bool.{false≢true}
use Rattle.std.proofs.KnownBytes.{Appends-trans}
use Rattle.std.proofs.Math.Seq.{take-add}
use Rattle.std.specs.Prelude.{OnErr, is_err, IsTrue}
use Rattle.std.specs.Io.KnownBytes.{Appends}
use Rattle.std.specs.declared.option.Option.{Option}
use borrow.Rule.Slice.PartMut.{put_mid}

-- a part written where it belongs
pub put_mid-at : {X : Type 0} (n k : ℕ) (xs zs ys : List X) → length xs ≡ n
    → put_mid n k (xs ++ zs) ys ≡ xs ++ (ys ++ drop k zs)
put_mid-at n k xs zs ys long = ap₂ (λ a b. a ++ (ys ++ drop k b)) (take_at xs zs n long) (drop_at xs zs n long)

-- a writer that has got the first bytes of a text and now n of the rest has got the first m
pub Appends-more : (a b c : Option (List ℕ)) (bytes rest : List ℕ) (done n m : ℕ) → rest ≡ drop done bytes
    → m ≡ done + n → Appends a b (take done bytes) → Appends b c (take n rest) → Appends a c (take m bytes)
Appends-more a b c bytes rest done n m behind sum before more =
    let joined = ap (λ ys. take done bytes ++ take n ys) behind ∙ sym (take-add done n bytes)
    ∙ ap (λ k. take k bytes) (sym sum) in
    subst (Appends a c) joined (Appends-trans a b c _ _ before more)

-- a call that is accepted has what it ensures on `Ok`
pub on_ok-holds : {T E P : Type 0} (r : Result T E) → IsOk r → OnOk r P → P
on_ok-holds (Ok x) accepted holds = holds
on_ok-holds (Err e) accepted holds = elim (false≢true accepted) [ ]

-- and what follows from that, where it is accepted
pub on_ok_given : {T E P Q : Type 0} (r : Result T E) → (IsOk r → P → Q) → OnOk r P → OnOk r Q
on_ok_given (Ok x) next holds = next refl holds
on_ok_given (Err e) next holds = tt

-- a call that isn't accepted has what it ensures on `Err`
pub on_err-holds : {T E P : Type 0} (r : Result T E) → (IsOk r → ⊥) → OnErr r P → P
on_err-holds (Ok x) never holds = absurd (never refl)
on_err-holds (Err e) never holds = holds

-- and `is_err` says so
pub is_err-holds : {T E : Type 0} (r : Result T E) → (IsOk r → ⊥) → IsTrue (is_err r)
is_err-holds (Ok x) never = absurd (never refl)
is_err-holds (Err e) never = refl
