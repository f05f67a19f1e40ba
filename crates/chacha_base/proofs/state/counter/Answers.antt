use Rattle.chacha_base.proofs.StateLemmas.{state_counter-below, row_counter-state}
use Rattle.chacha_base.proofs.state.counter.Goals as goal
use Rattle.std.proofs.Common.{◌∙◌}

pub returns-clause-below : goal.returns-clause-below
returns-clause-below g c = state_counter-below g.V.Variant.layout c.args.state.now c.told-state c.fits-state

pub returns-clause-value : goal.returns-clause-value
returns-clause-value g c =
    c.get_block_pos.ensures ∙ row_counter-state g.V.Variant.layout c.args.state.now c.told-state
