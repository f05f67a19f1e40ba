use Rattle.std.proofs.Common.{◌*◌, ◌<◌, ◌≤◌, ◌∙◌, ap, arith, length}
use Rattle.chacha_base.specs.Lanes.{block_in_columns}
use Rattle.chacha_base.proofs.ListLemmas.{four_listed, four_more}
use Rattle.chacha_base.proofs.backends.columns.ColumnsGroup.store.Goals as goal

pub each-preserved : goal.each-preserved
each-preserved g c h less =
    let inside : c.each.g < g.V.Vector.QUADS = omega arith in
    let room : 4 * c.each.g ≤ length c.each.buffers = omega (arith, c.requires, c.each.auto.buffers) in
    let words = g.B.BlockBuffer.of_words in
    let rows = c.in_rows-rows.ensures in
    four_more (λ k. words (block_in_columns g.V.Vector.lane c.args.self k)) (4 * c.each.g) c.each.buffers
    c.write_blocks.new.buffers (omega arith) room
    (c.write_blocks.ensures
    ∙ four_listed (ap words (rows.first c.each.g inside)) (ap words (rows.second c.each.g inside))
    (ap words (rows.third c.each.g inside)) (ap words (rows.fourth c.each.g inside)))
    c.each.invariant h (omega arith)
