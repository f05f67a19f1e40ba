use Rattle.chacha20.proofs.ReadLemmas.{two_reads}
use Rattle.chacha20.proofs.rng.ChaChaRng.next_u64_across.Goals as goal

pub returns-clause-value : goal.returns-clause-value
returns-clause-value g c =
    rw c.joined.ensures
    (two_reads g.R.Rounds.COUNT c.args.self.now c.next_u32-low.ensures.value c.next_u32-high.ensures.value)
