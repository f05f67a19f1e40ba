use Rattle.std.proofs.Common.{◌≤◌, length, arith, mul-le-mul_right}
use denote.Param.{layout}
use prog.Memory.{size}
use Rattle.chacha_base.specs.Lanes.{block_in_rows}
use Rattle.chacha_base.proofs.ListLemmas.{one_more}
use Rattle.chacha_base.proofs.backends.rows.RowsGroup.store.Goals as goal

-- answered for speed
pub each-preserved : goal.each-preserved
each-preserved g l =
    one_more (λ h. g.B.BlockBuffer.of_words (block_in_rows g.V.Vector.lane l.args.self.0 h)) l.each.g l.each.buffers
    l.write_block.new.buffer (omega arith) l.write_block.ensures l.each.invariant

-- answered for speed
pub offset_bounds-buffers-g : goal.offset_bounds-buffers-g
offset_bounds-buffers-g g c =
    let inside : c.each.g ≤ length c.args.buffers.now = omega arith in
    omega (arith, c.well_formed.1.0.1, mul-le-mul_right (size (layout g.row.B)) inside)
