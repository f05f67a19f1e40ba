-- What holds of bytes where they are known, and an error that is passed on.
use Rattle.std.proofs.Common.{◌≡◌, Some, None, Err, refl, IfSome, IsErrAnd, sym, ap, subst}
use Rattle.std.specs.declared.option.Option.{Option}
use Rattle.std.specs.declared.result.Result.{Result}
use Rattle.std.specs.Option.{ForSome, IsSomeAnd}

pub for_some : {T : Type 0} (o : Option T) (P : T → Type 0) → IfSome o P → ForSome o P
for_some o P holds = λ x known. subst (λ o. IfSome o P) known holds

pub some_and : {T : Type 0} (o : Option T) (P : T → Type 0) → IsSomeAnd o P → (x : T) × (o ≡ Some x) × P x
some_and None P none = absurd none
some_and (Some x) P holds = (x, refl, holds)

pub passed-on : {S T E : Type 0} (r : Result T E) (e x : E) → IsErrAnd r (λ y. y ≡ e) → r ≡ Err x
    → ◌≡◌ {A = Result S E} (Err e) (Err x)
passed-on r e x err is = ap Err (sym (subst (λ s. IsErrAnd s (λ y. y ≡ e)) is err))
