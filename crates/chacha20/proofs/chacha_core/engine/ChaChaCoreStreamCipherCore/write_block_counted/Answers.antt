use Rattle.std.proofs.Common.{◌∙◌}
use Rattle.chacha_base.proofs.StateLemmas.{fixed_words-state_after, state_counter-state_after, next_block-zero}
use Rattle.chacha20.proofs.chacha_core.engine.ChaChaCoreStreamCipherCore.write_block_counted.Goals as goal

pub returns : goal.returns
returns g c =
    let layout = g.V.Variant.layout in
    let moved = c.gen_ks_block.ensures.state in
    rw (← c.self.view_is) record {
      block = c.gen_ks_block.ensures.block ∙ next_block-zero g.R.Rounds.COUNT layout _;
      fixed = fixed_words-state_after layout 1 _ _ c.self.told moved;
      counter = state_counter-state_after layout 1 _ _ c.self.told moved;
      steps = c.gen_ks_block.ensures.steps;
    }
