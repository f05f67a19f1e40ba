use Rattle.std.proofs.Common.{arith}
use Rattle.chacha20.proofs.rng.ChaChaRng.get_word_pos.Goals as goal

pub returns-clause-value : goal.returns-clause-value
returns-clause-value g c =
    let first = rw c.get_block_pos-first.ensures.value at c.from.ensures in
    rw (← c.self.view_is) (omega (arith, first))
