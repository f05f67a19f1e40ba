use Rattle.sealed_file.proofs.EncryptLemmas.{Written}
use Rattle.sealed_file.proofs.stream.encrypt_with_salt.Given as goal

abbrev pub invariant-chunks : goal.invariant-chunks
invariant-chunks g l =
    Written (g.R.Read.remaining l.fn.reader) (g.R.Read.remaining l.reader) (g.W.Write.contents l.fn.writer)
    (g.W.Write.contents l.writer) l.next l.fn.key l.salt l.number
