use Rattle.std.proofs.Common.{◌∙◌, arith}
use Rattle.chacha_base.proofs.BytesLemmas.{bytes-written}
use Rattle.chacha_base.proofs.bytes.write_bytes.Goals as goal

pub loop-i-preserved : goal.loop-i-preserved
loop-i-preserved c =
    bytes-written c.args.input.now c.loop-i.output _ c.loop-i.i (omega arith) (omega arith) c.loop-i.invariant
    (c.copy_from_slice.ensures.after ∙ c.to_le_bytes.ensures)
