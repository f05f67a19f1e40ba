use Rattle.std.proofs.Common.{arith}
use Rattle.chacha20.proofs.GeneratorLemmas.{unread-recounted, generator_of-recounted}
use Rattle.chacha20.proofs.rng.ChaChaRng.set_block_pos.Goals as goal

pub invariant_of-self : goal.invariant_of-self
invariant_of-self g c = unread-recounted _ _ c.self.invariant c.set_counter_by_words.ensures.state

pub returns : goal.returns
returns g c =
    generator_of-recounted c.self.inside.core _ c.self.inside.index c.set_counter_by_words.ensures.fixed
    c.set_counter_by_words.ensures.counter (omega arith) c.self.view_is
