use Rattle.std.proofs.Common.{arith}
use Rattle.std.proofs.KnownBytes.{Appends-nil}
use Rattle.sealed_file.proofs.EncryptLemmas.{front-header}
use Rattle.sealed_file.proofs.stream.encrypt.Goals as goal

-- of no text, whatever the salt is
pub returns-in-Err-clause-only_sealed : goal.returns-in-Err-clause-only_sealed
returns-in-Err-clause-only_sealed g c =
    let salt = c.fill_bytes.new.buf in
    let (text, n, all, less, written) = front-header (g.R.Read.remaining c.args.reader.now) _ _ c.args.key.now salt 0
    c.fill_bytes.auto.buf (omega arith) (Appends-nil (g.W.Write.contents c.args.writer.now)) in
    (salt, text, n, c.fill_bytes.auto.buf, all, less, written)
