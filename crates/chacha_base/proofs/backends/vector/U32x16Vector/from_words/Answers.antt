use Rattle.std.proofs.Common.{slice_index, ap, arith, take_all}
use Rattle.chacha_base.proofs.backends.vector.U32x16Vector.from_words.Goals as goal

pub returns : goal.returns
returns c j h = ap (λ words. slice_index words j) (take_all 16 c.args.words.now (omega arith))
