use Rattle.std.proofs.Common.{◌∙◌, ap, mod-eq_of_lt}
use Rattle.chacha_base.specs.State.{state_counter, fixed_words}
use Rattle.chacha_base.proofs.StateLemmas.{state_counter-state_at, fixed_words-state_at, state_at-written}
use Rattle.chacha_base.proofs.state.set_counter.Goals as goal

pub returns : goal.returns
returns g c =
    let layout = g.V.Variant.layout in
    let number = g.V.Counter.StreamCipherCounter.value c.args.counter in
    let written = state_at-written layout number c.args.state.now _ c.told-state c.set_block_pos.ensures.row in
    record {
      state = written;
      fixed = ap (fixed_words layout) written ∙ fixed_words-state_at layout number c.args.state.now c.told-state;
      counter = ap (state_counter layout) written ∙ state_counter-state_at layout number c.args.state.now c.told-state
          ∙ mod-eq_of_lt c.set_block_pos.ensures.below;
    }
