use Rattle.std.proofs.Common.{◌-◌, Some, arith, length, length-set, set, take, sym, subst}
use Rattle.std.specs.Io.KnownBytes.{Consumes}
use Rattle.std.proofs.KnownBytes.{Consumes-trans}
use Rattle.sealed_file.specs.Sealed.{left}
use Rattle.sealed_file.proofs.BufferLemmas.{take-put_mid}
use Rattle.sealed_file.proofs.EncryptLemmas.{ahead}
use Rattle.sealed_file.proofs.stream.fill_behind.Goals as goal

pub returns-clause-bytes : goal.returns-clause-bytes
returns-clause-bytes g c =
    let a = g.R.Read.remaining c.args.reader.now in
    let b = g.R.Read.remaining c.fill-2.new.reader in
    let n = c.in_ok-fill.field-0 in
    let new = c.fill-2.new.buf in
    let front = set c.args.buf.now 0 c.in-Some.byte in
    let got = c.in_ok-fill.ensures in
    rw c.in-Some.is (subst (Consumes (left (Some c.in-Some.byte) a) b)
    (sym (take-put_mid 1 n (length front - 1) front new
    (omega (arith, c.requires, length-set c.args.buf.now 0 c.in-Some.byte))
    (omega (arith, got.bound, c.fill-2.auto.buf))))
    (Consumes-trans (left (Some c.in-Some.byte) a) a b (take 1 front) (take n new)
    (ahead a c.args.buf.now c.in-Some.byte c.requires) got.right))
