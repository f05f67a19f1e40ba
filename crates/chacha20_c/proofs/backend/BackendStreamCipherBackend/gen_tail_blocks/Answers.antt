use Rattle.std.proofs.Common.{◌-◌, length, arith, refl, rules}
use Rattle.chacha20.proofs.BlocksLemmas.{AreMade, none-made, made-more}
use Rattle.chacha20_c.proofs.backend.BackendStreamCipherBackend.gen_tail_blocks.Goals as goal
use Rattle.chacha20_c.proofs.backend.BackendStreamCipherBackend.gen_tail_blocks.Goals.{then-blocks-ge8, else-blocks-ge8}

pub returns : goal.returns
returns g c =
    let n = g.R.Rounds.COUNT in
    let layout = g.V.Variant.layout in
    let s = c.args.state.now in
    let none = none-made s c.args.blocks.now in
    let held : AreMade n layout s c.if-blocks-ge8.done c.if-blocks-ge8.state c.if-blocks-ge8.blocks =
    elim c.if-blocks-ge8.branch [
      | then-blocks-ge8 w ↦ rw (w.state-is, w.blocks-is, w.done-is)
          (made-more 8 8 _ c.told-state none refl (omega arith)
          w.gen_par_ks_blocks.auto.blocks w.gen_par_ks_blocks.ensures.blocks w.gen_par_ks_blocks.ensures.state).0
      | else-blocks-ge8 w ↦ rw (w.state-is, w.blocks-is, w.done-is) none
    ] in
    let made = c.gen_tail_blocks-else-this.ensures in
    let end = made-more (length c.if-blocks-ge8.blocks - c.if-blocks-ge8.done) (length c.args.blocks.now) _ c.told-state
    held (omega arith) (omega arith) c.gen_tail_blocks-else-this.auto.blocks made.blocks made.state in
    record { blocks = end.0.done; state = end.1; steps = search rules }
