use Rattle.std.proofs.Math.Bool.{and_assoc}
use Rattle.chacha20.proofs.GeneratorLemmas.{same-Decides}
use Rattle.chacha20.proofs.rng.ChaChaRngPartialEq.eq.Goals as goal

pub returns-clause-value : goal.returns-clause-value
returns-clause-value g c =
    rw (c.get_word_pos.ensures.value, c.get_word_pos-2.ensures.value, c.get_stream.ensures, c.get_stream-2.ensures)
    (rw (c.eq.ensures, c.get_seed.ensures, c.get_seed-2.ensures, and_assoc))

pub returns-clause-same : goal.returns-clause-same
returns-clause-same g c = rw (returns-clause-value g c) (same-Decides c.args.self.now c.args.other.now)
