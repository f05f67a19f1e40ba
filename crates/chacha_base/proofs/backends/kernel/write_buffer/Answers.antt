use Rattle.std.proofs.Common.{◌≡◌, ◌+◌, ◌*◌, ◌-◌, ◌<◌, refl, ◌∙◌, arith, rules}
use Rattle.std.proofs.lemmas.Slice.{overwrites}
use Rattle.chacha_base.specs.ChaCha.{legacy}
use Rattle.chacha_base.specs.State.{state_after}
use Rattle.chacha_base.proofs.StateLemmas.{next_words-more, next_words-are}
use Rattle.chacha_base.proofs.backends.kernel.write_buffer.Goals as goal

pub each-preserved : goal.each-preserved
each-preserved g c =
    let s = c.args.state.now in
    let i = c.each.i in
    let inside : i < 4 = omega arith in
    let here : 16 * i + 16 - 16 * i ≡ 16 = omega arith in
    let made = c.copy_from_slice.ensures.after ∙ c.mixed_words-words.ensures.words i inside in
    record {
      long = search (rules, overwrites);
      done = rw here (λ k less. next_words-more g.R.Rounds.COUNT legacy s (state_after legacy i s) i c.each.buffer _
          refl made (omega (arith, c.each.invariant.long)) c.each.invariant.done k (omega arith));
    }

pub returns-clause-words : goal.returns-clause-words
returns-clause-words g c =
    next_words-are g.R.Rounds.COUNT legacy c.args.state.now c.each.buffer c.each.invariant.long
    (λ k less. c.each.invariant.done k (omega arith))
