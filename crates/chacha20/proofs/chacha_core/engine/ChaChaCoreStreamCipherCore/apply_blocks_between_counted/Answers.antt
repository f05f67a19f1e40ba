use Rattle.chacha_base.proofs.StateLemmas.{fixed_words-state_after, state_counter-state_after}
use Rattle.chacha20.proofs.chacha_core.engine.ChaChaCoreStreamCipherCore.apply_blocks_between_counted.Goals as goal

pub returns : goal.returns
returns g c =
    let moved = c.apply_blocks.ensures.state in
    rw (← c.self.view_is) record {
      output = c.apply_blocks.ensures.data;
      fixed = fixed_words-state_after g.V.Variant.layout _ _ _ c.self.told moved;
      counter = state_counter-state_after g.V.Variant.layout _ _ _ c.self.told moved;
      steps = c.apply_blocks.ensures.steps;
    }
