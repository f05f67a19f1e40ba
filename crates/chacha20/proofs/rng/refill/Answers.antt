use Rattle.chacha20.proofs.ReadLemmas.{refilled, generator_of-refilled}
use Rattle.chacha20.proofs.rng.refill.Goals as goal

pub returns-then-index-eq-BUFFER_WORDS-clause-unread : goal.returns-then-index-eq-BUFFER_WORDS-clause-unread
returns-then-index-eq-BUFFER_WORDS-clause-unread g c =
    refilled c.requires c.generate.ensures.moved c.generate.ensures.output

pub returns-then-index-eq-BUFFER_WORDS-clause-same : goal.returns-then-index-eq-BUFFER_WORDS-clause-same
returns-then-index-eq-BUFFER_WORDS-clause-same g c =
    rw c.if-index-eq-BUFFER_WORDS.true
    (generator_of-refilled c.args.core.now _ c.requires.sixteen c.generate.ensures.moved)
