use Rattle.chacha_base.proofs.ListLemmas.{four_set}
use Rattle.chacha_base.proofs.backends.columns.write_blocks.Goals as goal

-- answered for speed
pub returns : goal.returns
returns g c =
    four_set c.args.buffers.now c.requires.room c.write_block.ensures c.write_block-2.ensures c.write_block-3.ensures
    c.write_block-4.ensures
