use Rattle.std.proofs.Common.{◌+◌, ◌%◌, ◌∙◌, ap, arith}
use Rattle.chacha20.specs.Generator.{GeneratorState, at_word_pos, positions}
use Rattle.chacha20.proofs.GeneratorLemmas.{unread-recounted, generator_of-recounted}
use Rattle.chacha20.proofs.ReadLemmas.{taken, generator_of-taken, refilled, generator_of-refilled}
use Rattle.chacha20.proofs.RepeatedLemmas.{at-same}
use Rattle.chacha20.proofs.rng.ChaChaRng.set_word_pos.Goals as goal

pub invariant_of-self : goal.invariant_of-self
invariant_of-self g c =
    taken (refilled (unread-recounted _ c.self.inside.buffer c.self.invariant c.set_counter_by_words.ensures.state)
    c.generate.ensures.moved c.generate.ensures.output) (c.args.word_pos % positions % 16) _ (omega arith) (omega arith)

pub returns-clause-value : goal.returns-clause-value
returns-clause-value g c =
    let position = c.args.word_pos % positions in
    let set = c.set_counter_by_words.ensures in
    let moved = unread-recounted _ c.self.inside.buffer c.self.invariant set.state in
    generator_of-taken c.generate.new.self 0 (position % 16) _ (omega arith)
    ∙ ap (λ (h : GeneratorState). at_word_pos h (h.word_pos + position % 16))
    (generator_of-refilled c.set_counter_by_words.new.self _ moved.sixteen c.generate.ensures.moved
    ∙ generator_of-recounted c.self.inside.core _ c.self.inside.index set.fixed set.counter (omega arith)
    c.self.view_is)
    ∙ at-same c.args.self.now _ _ (omega arith)

pub returns-clause-position : goal.returns-clause-position
returns-clause-position g c = ap (λ (h : GeneratorState). h.word_pos) (returns-clause-value g c)
