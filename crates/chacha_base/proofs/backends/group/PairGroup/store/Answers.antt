use Rattle.std.proofs.Common.{arith}
use Rattle.chacha_base.proofs.ListLemmas.{parts_written}
use Rattle.chacha_base.proofs.backends.group.PairGroup.store.Goals as goal

pub returns : goal.returns
returns g c =
    parts_written g.B.BlockBuffer.of_words g.G.Group.BLOCKS g.H.Group.BLOCKS _ _
    (g.G.Group.words_of c.args.self.0) (g.H.Group.words_of c.args.self.1)
    (omega arith) (omega arith) c.store.ensures c.store-2.ensures
