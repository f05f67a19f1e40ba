use Rattle.std.proofs.Common.{◌≡◌, ◌*◌, arith, refl, sym}
use Rattle.chacha_base.proofs.CountsLemmas.{grows-none, grows-single}
use Rattle.chacha_base.proofs.StateLemmas.{state_after-zero, state_after-more, next_block-more}
use Rattle.chacha_base.proofs.cipher.backends.StreamCipherBackend.gen_single_blocks.Goals as goal

pub each-init : goal.each-init
each-init g c =
    let free : 0 * (g.Self.StreamCipherBackend.ONE_STEPS * g.R.Rounds.COUNT) ≡ 0 = omega arith in
    record {
      blocks = λ j none. absurd (omega arith);
      state = sym (state_after-zero g.V.Variant.layout c.args.state.now c.told-state c.fits-state);
      steps = rw free (grows-none _);
    }

pub each-preserved : goal.each-preserved
each-preserved g c =
    let layout = g.V.Variant.layout in
    let s = c.args.state.now in
    let kept = c.each.invariant in
    let made = c.gen_ks_block.ensures in
    record {
      blocks = next_block-more g.R.Rounds.COUNT layout s c.each.state c.each.i c.each.blocks c.gen_ks_block.new.block
          c.told-state kept.state (omega arith) made.block kept.blocks;
      state = state_after-more layout s c.each.state c.gen_ks_block.new.state c.each.i 1 _ c.told-state kept.state
          made.state refl;
      steps = grows-single kept.steps made.steps;
    }
