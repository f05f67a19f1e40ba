use Rattle.std.proofs.Common.{◌^◌, ◌∙◌, [], arith, refl, sym, ap, subst, append-nil, take, length}
use Rattle.std.specs.Io.KnownBytes.{Appends}
use Rattle.std.proofs.KnownBytes.{Consumes-nil}
use Rattle.sealed_file.specs.Sealed.{header}
use Rattle.sealed_file.proofs.EncryptLemmas.{Sealing, front-before, front-header, long-text, sealing}
use Rattle.sealed_file.proofs.stream.encrypt_with_salt.Given.{Over}
use Rattle.sealed_file.proofs.stream.encrypt_with_salt.Goals.{After-write_whole-in-chunks}
use Rattle.sealed_file.proofs.stream.encrypt_with_salt.Goals as goal

makes : (g : Over) (c : After-write_whole-in-chunks g) → Sealing (g.R.Read.remaining c.args.reader.now)
    (g.R.Read.remaining c.read_chunk.new.reader) (g.W.Write.contents c.args.writer.now)
    (g.W.Write.contents c.chunks.writer) c.in-Ok.read.1 c.args.key.now c.args.salt.now c.seal_chunk.new.bytes
    c.chunks.number c.is_none-last.result
makes g c =
    let read = c.in-Ok.ensures in
    sealing c.args.key.now c.args.salt.now (g.R.Read.remaining c.read_chunk.new.reader) c.in-Ok.read.1
    c.read_chunk.new.buf c.seal_chunk.new.bytes c.in-Ok.read.0 c.is_none-last.result c.chunks.invariant c.told-salt
    c.chunks-test.true read.bytes read.size read.whole read.end c.is_none-last.ensures
    (omega (arith, read.size.0, c.read_chunk.auto.buf, c.told-buf)) c.seal_chunk.ensures

pub returns-in-Err-clause-only_sealed : goal.returns-in-Err-clause-only_sealed
returns-in-Err-clause-only_sealed g c =
    let (n, less, written) = c.in-Err.ensures.partly in
    front-header (g.R.Read.remaining c.args.reader.now) _ _ c.args.key.now c.args.salt.now n c.told-salt
    (omega (arith, less, ap length c.header.ensures, c.told-salt))
    (subst (λ head. Appends (g.W.Write.contents c.args.writer.now)
    (g.W.Write.contents c.write_whole.new.writer) (take n head)) c.header.ensures written)

pub chunks-init : goal.chunks-init
chunks-init g c = record {
  text = [];
  long = refl;
  some = λ less. absurd (omega (arith, less));
  read = Consumes-nil _;
  written = subst (Appends _ _) (c.header.ensures ∙ sym (append-nil (header c.args.salt.now)))
      c.in_default.ensures.written;
}

pub returns-in-Err-read_chunk-clause-only_sealed : goal.returns-in-Err-read_chunk-clause-only_sealed
returns-in-Err-read_chunk-clause-only_sealed g c = front-before c.args.key.now c.args.salt.now c.chunks.invariant

pub returns-in-Err-write_whole-clause-only_sealed : goal.returns-in-Err-write_whole-clause-only_sealed
returns-in-Err-write_whole-clause-only_sealed g c =
    let (k, less, more) = c.in-Err-write_whole.ensures.partly in
    (makes g (goal.at.returns-in-Err-write_whole-clause-only_sealed g c).After-write_whole-in-chunks).partly _ k less
    more

pub returns-then-last-clause-written : goal.returns-then-last-clause-written
returns-then-last-clause-written g c =
    (makes g (goal.at.returns-then-last-clause-written g c).After-write_whole-in-chunks).whole c.if-last.true _
    c.in_default-write_whole.ensures.written

pub chunks-preserved : goal.chunks-preserved
chunks-preserved g c =
    (makes g (goal.at.chunks-preserved g c).After-write_whole-in-chunks).more c.if-last.false _
    c.in_default-write_whole.ensures.written

pub returns-clause-only_sealed : goal.returns-clause-only_sealed
returns-clause-only_sealed g c = front-before c.args.key.now c.args.salt.now c.chunks.invariant

pub returns-clause-too_long : goal.returns-clause-too_long
returns-clause-too_long g c is =
    let before = c.chunks.invariant in
    long-text _ _ c.chunks.next before.text (2 ^ 48) before.read (omega (arith, before.long, c.chunks-test.false))
    (before.some (omega (arith, c.chunks-test.false)))
