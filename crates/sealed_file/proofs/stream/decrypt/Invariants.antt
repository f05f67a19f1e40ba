use Rattle.sealed_file.proofs.DecryptLemmas.{Opened}
use Rattle.sealed_file.proofs.stream.decrypt.Given as goal

abbrev pub invariant-chunks : goal.invariant-chunks
invariant-chunks g l =
    Opened (g.R.Read.remaining l.fn.reader) (g.R.Read.remaining l.reader) (g.W.Write.contents l.fn.writer)
    (g.W.Write.contents l.writer) l.next l.fn.key l.salt l.number
