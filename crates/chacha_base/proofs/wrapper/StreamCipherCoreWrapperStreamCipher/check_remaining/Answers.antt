use Rattle.std.proofs.Common.{ap, refl, arith}
use Rattle.std.proofs.lemmas.Bool.{false≢true}
use Rattle.chacha_base.proofs.wrapper.StreamCipherCoreWrapperStreamCipher.check_remaining.Goals as goal

-- What remains is the limit less the stored position, which is the view's.
-- So the bytes fit exactly where they are no more than what remains.
pub returns-then-len-remaining-clause-accepted : goal.returns-then-len-remaining-clause-accepted
returns-then-len-remaining-clause-accepted g c =
    let place = ap (λ v. v.position) c.self.view_is in
    (λ e. omega (arith, place, c.limit.ensures, c.self.invariant.within, c.if-len-remaining.true), λ fits. refl)

pub returns-else-len-remaining-clause-accepted : goal.returns-else-len-remaining-clause-accepted
returns-else-len-remaining-clause-accepted g c =
    let place = ap (λ v. v.position) c.self.view_is in (
      λ e. absurd (false≢true e),
      λ fits. absurd (omega (arith, place, c.limit.ensures, c.if-len-remaining.false, fits)),
    )
