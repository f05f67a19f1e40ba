use Rattle.std.proofs.Common.{arith}
use Rattle.chacha20.proofs.GeneratorLemmas.{starts-renonced, unread-start, generator_of-start}
use Rattle.chacha20.proofs.rng.ChaChaRng.set_stream.Goals as goal

pub invariant_of-self : goal.invariant_of-self
invariant_of-self g c =
    unread-start
    (starts-renonced c.self.invariant (omega arith) c.set_stream.ensures c.set_counter_by_words.ensures.state) _ _

pub returns : goal.returns
returns g c =
    rw (← c.self.view_is) (generator_of-start
    (starts-renonced c.self.invariant (omega arith) c.set_stream.ensures c.set_counter_by_words.ensures.state))
