use Rattle.std.proofs.Common.{◌≡◌, ◌+◌, ◌++◌, ◌∙◌, arith, length, length-append, length-take-le, take, drop, ap, sym, subst}
use Rattle.std.proofs.lemmas.List.{take-append-le}
use Rattle.std.specs.Io.KnownBytes.{Consumes}
use Rattle.sealed_file.specs.Sealed.{left}
use Rattle.sealed_file.proofs.EncryptLemmas.{behind}
use Rattle.sealed_file.proofs.stream.read_chunk.Goals as goal

pub returns-clause-bytes : goal.returns-clause-bytes
returns-clause-bytes g c =
    let a = left c.args.next (g.R.Read.remaining c.args.reader.now) in
    let b = g.R.Read.remaining c.fill_behind.new.reader in
    let all = c.args.size + 1 in
    let new = c.fill_behind.new.buf in
    let more = drop all c.args.buf.now in
    let got = c.in_ok-n.ensures in
    let long : length new ≡ all =
    omega (arith, c.fill_behind.auto.buf, length-take-le all c.args.buf.now (omega (arith, c.requires))) in
    let whole : c.in_ok-n.n ≡ all = omega (arith, c.if-n-size.false, got.size.0, long, c.fill_behind.auto.buf) in
    behind a b (new ++ more) c.args.size (omega (arith, length-append new more, long))
    (subst (Consumes a b) (ap (λ k. take k new) whole ∙ sym (take-append-le all new more (omega (arith, long))))
    got.bytes)
