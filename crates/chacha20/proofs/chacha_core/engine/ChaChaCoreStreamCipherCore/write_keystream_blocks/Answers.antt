use Rattle.std.proofs.Common.{◌+◌, ◌-◌, length, arith}
use Rattle.chacha_base.proofs.StateLemmas.{fixed_words-state_after, state_counter-state_after}
use Rattle.chacha20.proofs.BlocksLemmas.{none-made, made-more}
use Rattle.chacha20.proofs.chacha_core.engine.ChaChaCoreStreamCipherCore.write_keystream_blocks.Goals as goal

pub groups-init : goal.groups-init
groups-init g c = rw (← c.self.view_is) (none-made c.self.inside.state c.args.blocks.now)

pub groups-preserved : goal.groups-preserved
groups-preserved g c =
    let a = c.groups.done in
    let e = a + c.PAR_BLOCKS-width.result in
    let made = c.gen_par_ks_blocks.ensures in
    rw (← c.self.view_is) (made-more (e - a) e _ c.self.told
    (rw (← c.self.view_is) at c.groups.invariant) (omega arith) (omega arith)
    c.gen_par_ks_blocks.auto.blocks made.blocks made.state).0

pub returns : goal.returns
returns g c =
    let layout = g.V.Variant.layout in
    let made = c.gen_tail_blocks.ensures in
    let end = made-more (length c.groups.blocks - c.groups.done) (length c.args.blocks.now) _ c.self.told
    (rw (← c.self.view_is) at c.groups.invariant) (omega arith) (omega arith) c.gen_tail_blocks.auto.blocks made.blocks
    made.state in
    rw (← c.self.view_is) record {
      blocks = end.0.done;
      fixed = fixed_words-state_after layout _ _ _ c.self.told end.1;
      counter = state_counter-state_after layout _ _ _ c.self.told end.1;
    }
