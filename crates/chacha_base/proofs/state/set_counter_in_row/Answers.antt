use Rattle.std.proofs.Common.{◌∙◌, ap, mod-eq_of_lt}
use Rattle.chacha_base.specs.State.{state_counter, fixed_words}
use Rattle.chacha_base.proofs.StateLemmas.{state_counter-state_at, fixed_words-state_at, state_at-in_row}
use Rattle.chacha_base.proofs.state.set_counter_in_row.Goals as goal

pub returns : goal.returns
returns g c =
    let layout = g.V.Variant.layout in
    let number = g.V.Counter.StreamCipherCounter.value c.args.counter in
    let written = state_at-in_row layout number c.args.state.now _ _ c.told-state c.fits-state
    (rw c.from_u64.ensures at c.set_block_pos.ensures.row) c.set_block_pos-2.ensures.row in
    record {
      state = written;
      fixed = ap (fixed_words layout) written ∙ fixed_words-state_at layout number c.args.state.now c.told-state;
      counter = ap (state_counter layout) written ∙ state_counter-state_at layout number c.args.state.now c.told-state
          ∙ mod-eq_of_lt c.set_block_pos-2.ensures.below;
    }
