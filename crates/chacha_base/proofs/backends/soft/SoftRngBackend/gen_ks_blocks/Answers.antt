use Rattle.std.proofs.Common.{◌≡◌, ◌+◌, ◌*◌, ◌-◌, sym, ap, ◌∙◌, arith, rules}
use Rattle.std.proofs.lemmas.Slice.{overwrites}
use Rattle.chacha_base.proofs.CountsLemmas.{counted-none, counted-more}
use Rattle.chacha_base.specs.ChaCha.{legacy}
use Rattle.chacha_base.specs.State.{state_after}
use Rattle.chacha_base.proofs.StateLemmas.{state_after-zero, state_after-state_after, next_words-more, next_words-are}
use Rattle.chacha_base.proofs.backends.soft.SoftRngBackend.gen_ks_blocks.Goals as goal

pub each-init : goal.each-init
each-init g c = record {
  long = c.told-buffer;
  done = λ k less. absurd (omega arith);
  state = sym (state_after-zero legacy _ c.told-state c.fits-state);
  steps = counted-none (8 * g.R.Rounds.COUNT) c.args.steps.now;
}

pub each-preserved : goal.each-preserved
each-preserved g c =
    let n = g.R.Rounds.COUNT in
    let i = c.each.i in
    let before = c.each.invariant in
    let here : 16 * i + 16 - 16 * i ≡ 16 = omega arith in
    let made = c.copy_from_slice.ensures.after ∙ c.block_words.ensures.words in
    record {
      long = search (rules, overwrites);
      done = rw here (λ k less. next_words-more n legacy c.args.state.now c.each.state i c.each.buffer _ before.state
          made (omega (arith, before.long)) before.done k (omega arith));
      state = c.advance.ensures ∙ ap (state_after legacy 1) before.state
          ∙ state_after-state_after legacy i 1 c.args.state.now c.told-state;
      steps = counted-more (8 * n) i c.args.steps.now before.steps c.block_words.ensures.steps;
    }

pub returns-clause-words : goal.returns-clause-words
returns-clause-words g c =
    next_words-are g.R.Rounds.COUNT legacy c.args.state.now c.each.buffer c.each.invariant.long
    (λ k less. c.each.invariant.done k (omega arith))
