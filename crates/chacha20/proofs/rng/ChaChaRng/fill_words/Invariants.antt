use Rattle.std.proofs.Common.{◌≤◌, ◌-◌, ◌*◌, length}
use Rattle.chacha20.proofs.ReadLemmas.{FilledTo}
use Rattle.chacha20.proofs.rng.ChaChaRng.fill_words.Given as goal

abbrev pub invariant-words : goal.invariant-words
invariant-words g l =
    let it = l.self-inside in
    record {
      filled : FilledTo g.R.Rounds.COUNT l.fn.self l.done it.core it.buffer it.index l.dst;
      within : 4 * l.done ≤ length l.dst;
    }

abbrev pub decreases-words : goal.decreases-words
decreases-words g l = length l.initial.dst - 4 * l.done
