use Rattle.std.proofs.Common.{◌∙◌, ap}
use Rattle.chacha_base.proofs.ListLemmas.{four_joined}
use Rattle.chacha_base.proofs.backends.buffer.write_block.Goals as goal

-- answered for speed
pub returns : goal.returns
returns g c =
    c.write_rows.ensures
    ∙ ap g.B.BlockBuffer.of_words (four_joined c.quad.ensures c.quad-2.ensures c.quad-3.ensures c.quad-4.ensures)
