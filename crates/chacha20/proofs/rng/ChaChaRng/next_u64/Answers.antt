use Rattle.std.proofs.Common.{arith, refl}
use Rattle.chacha20.proofs.ReadLemmas.{taken, two_read}
use Rattle.chacha20.proofs.rng.ChaChaRng.next_u64.Goals as goal

pub invariant_of-self : goal.invariant_of-self
invariant_of-self g c = taken c.self.invariant 2 _ refl (omega (arith, c.if-self.true))

pub returns-then-self-clause-value : goal.returns-then-self-clause-value
returns-then-self-clause-value g c =
    rw (← c.self.view_is, c.joined.ensures) (two_read c.self.invariant (omega arith))
