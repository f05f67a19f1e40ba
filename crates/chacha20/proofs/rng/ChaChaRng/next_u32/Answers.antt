use Rattle.std.proofs.Common.{◌∙◌, ap, arith, refl}
use Rattle.chacha20.specs.Generator.{next_u32}
use Rattle.chacha20.proofs.ReadLemmas.{taken, first_read}
use Rattle.chacha20.proofs.rng.ChaChaRng.next_u32.Goals as goal

pub invariant_of-self : goal.invariant_of-self
invariant_of-self g c = taken c.refill.ensures.unread 1 _ refl (omega (arith, c.refill.ensures.some))

pub returns-clause-value : goal.returns-clause-value
returns-clause-value g c =
    first_read c.refill.ensures.unread c.refill.ensures.some
    ∙ ap (next_u32 g.R.Rounds.COUNT) (c.refill.ensures.same ∙ c.self.view_is)
