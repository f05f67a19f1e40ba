use Rattle.std.proofs.Common.{ℕ, Option, ◌≡◌, ◌≤◌, subst, sym, refl, arith, IsSomeAnd, IfSome}
use Rattle.std.proofs.lemmas.Bool.{false≢true}
use Rattle.chacha_base.specs.Cipher.{limit_of}
use Rattle.chacha_base.proofs.wrapper.StreamCipherCoreWrapperStreamCipherSeek.try_seek.Goals as goal

pub returns-in_default-clause-accepted : goal.returns-in_default-clause-accepted
returns-in_default-clause-accepted g c =
    let within = λ (o : Option ℕ). IsSomeAnd o (λ p. p ≤ limit_of g.C.Keystream.modulus) in
    let past = c.if-position-limit.false in (
      λ e. absurd (false≢true e),
      λ some. absurd (omega (arith, c.limit.ensures, past, subst within (sym c.in-Some.ensures.value) some)),
    )

pub returns-in-Some-clause-accepted : goal.returns-in-Some-clause-accepted
returns-in-Some-clause-accepted g c =
    let fits = subst (λ limit. c.in-Some.position ≤ limit) c.limit.ensures c.if-position-limit.true in
    (λ e. subst (λ o. IsSomeAnd o (λ p. p ≤ limit_of g.C.Keystream.modulus)) c.in-Some.ensures.value fits, λ some. refl)

pub returns-in-Some-clause-position : goal.returns-in-Some-clause-position
returns-in-Some-clause-position g c =
    subst (λ o. IfSome o (λ p. c.move_to.new.self.position ≡ p)) c.in-Some.ensures.value c.move_to.ensures.position
