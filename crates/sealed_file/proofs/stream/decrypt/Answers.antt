use Rattle.std.proofs.Common.{◌≡◌, ◌-◌, ◌∙◌, Err, [], take, arith, refl, sym, ap, subst, append-nil}
use Rattle.std.specs.Io.KnownBytes.{Consumes}
use Rattle.std.proofs.KnownBytes.{Appends-nil}
use Rattle.sealed_file.specs.declared.error.Damage.{Damage}
use Rattle.sealed_file.specs.declared.error.DecryptError.TheVariants.{Damaged}
use Rattle.sealed_file.specs.Sealed.{header}
use Rattle.sealed_file.proofs.DecryptLemmas.{HasDamage, HasText, Opening, has-text, none-written, nothing-written, opening, so-far, text-of, too-long}
use Rattle.sealed_file.proofs.stream.decrypt.Given.{Over}
use Rattle.sealed_file.proofs.stream.decrypt.Goals.{After-open_chunk, After-write_whole}
use Rattle.sealed_file.proofs.stream.decrypt.Goals as goal

tells : (g : Over) (c : After-open_chunk g) → Opening (g.R.Read.remaining c.args.reader.now)
    (g.R.Read.remaining c.read_chunk.new.reader) (g.W.Write.contents c.args.writer.now)
    (g.W.Write.contents c.chunks.writer) c.in-Ok-read_chunk.read.1 c.args.key.now c.in-Ok.salt
    (take c.in-Ok-read_chunk.read.0 c.read_chunk.new.buf) c.chunks.number c.is_none-last.result
tells g c =
    let read = c.in-Ok-read_chunk.ensures in
    opening c.args.key.now c.in-Ok.salt (g.R.Read.remaining c.read_chunk.new.reader) c.in-Ok-read_chunk.read.1
    c.read_chunk.new.buf c.in-Ok-read_chunk.read.0 c.is_none-last.result c.chunks.invariant c.in-Ok.ensures.size
    c.chunks-test.true read.bytes read.size read.whole read.end c.is_none-last.ensures
    (omega (arith, read.size.0, c.read_chunk.auto.buf, c.told-buf))

has : (g : Over) (c : After-write_whole g) → HasText c.args.key.now c.in-Ok.salt
    (take c.in-Ok-read_chunk.read.0 c.read_chunk.new.buf) c.chunks.number c.is_none-last.result
    (take (c.in-Ok-read_chunk.read.0 - 16) c.open_chunk.new.bytes)
has g c =
    let is = c.if-not-open_chunk.ensures in
    has-text c.args.key.now c.in-Ok.salt c.read_chunk.new.buf c.open_chunk.new.bytes c.chunks.number
    c.in-Ok-read_chunk.read.0 c.is_none-last.result
    (omega (arith, c.in-Ok-read_chunk.ensures.size.0, c.read_chunk.auto.buf, c.told-buf)) c.open_chunk.auto.bytes
    (is.right refl) (is.long refl)

pub returns-in-Err-clause-damaged : goal.returns-in-Err-clause-damaged
returns-in-Err-clause-damaged g c damage is =
    let same : c.in-Err.e ≡ Damaged damage = (cc) in
    nothing-written (g.R.Read.remaining c.args.reader.now) _ c.args.key.now damage
    (c.in-Err.ensures.damaged damage (ap Err same))

pub returns-in-Err-clause-only_right : goal.returns-in-Err-clause-only_right
returns-in-Err-clause-only_right g c = none-written (g.R.Read.remaining c.args.reader.now) _ c.args.key.now

pub chunks-init : goal.chunks-init
chunks-init g c = record {
  text = [];
  long = refl;
  some = λ less. absurd (omega (arith, less));
  read = subst (Consumes (g.R.Read.remaining c.args.reader.now) (g.R.Read.remaining c.read_header.new.reader))
      (sym (append-nil (header c.in-Ok.salt))) c.in-Ok.ensures.right;
  written = Appends-nil _;
}

pub returns-in-Err-read_chunk-clause-only_right : goal.returns-in-Err-read_chunk-clause-only_right
returns-in-Err-read_chunk-clause-only_right g c =
    so-far c.args.key.now c.in-Ok.salt c.in-Ok.ensures.size (omega (arith, c.chunks-test.true)) c.chunks.invariant

pub returns-then-not-open_chunk-clause-damaged : goal.returns-then-not-open_chunk-clause-damaged
returns-then-not-open_chunk-clause-damaged g c damage is =
    let same : c.of_chunk.result ≡ damage = (cc) in
    subst (HasDamage (g.R.Read.remaining c.args.reader.now) c.args.key.now _ _) (sym c.of_chunk.ensures ∙ same)
    ((tells g (goal.at.returns-then-not-open_chunk-clause-damaged g c).After-open_chunk).wrong
    (c.if-not-open_chunk.ensures.wrong refl))

pub returns-then-not-open_chunk-clause-only_right : goal.returns-then-not-open_chunk-clause-only_right
returns-then-not-open_chunk-clause-only_right g c =
    so-far c.args.key.now c.in-Ok.salt c.in-Ok.ensures.size (omega (arith, c.chunks-test.true)) c.chunks.invariant

pub returns-in-Err-write_whole-clause-only_right : goal.returns-in-Err-write_whole-clause-only_right
returns-in-Err-write_whole-clause-only_right g c =
    let at = goal.at.returns-in-Err-write_whole-clause-only_right g c in
    let (k, less, more) = c.in-Err-write_whole.ensures.partly in
    (tells g at.After-open_chunk).partly _ (has g at.After-write_whole) _ k (omega (arith, less)) more

pub returns-then-last-clause-accepted : goal.returns-then-last-clause-accepted
returns-then-last-clause-accepted g c =
    let at = goal.at.returns-then-last-clause-accepted g c in
    (tells g at.After-open_chunk).whole c.if-last.true _ (has g at.After-write_whole) _ c.in_default.ensures.written

pub returns-then-last-clause-text : goal.returns-then-last-clause-text
returns-then-last-clause-text g c =
    let (salt, text, file, all, is, written) = returns-then-last-clause-accepted g c in
    text-of (g.R.Read.remaining c.args.reader.now) _ _ c.args.key.now salt text file all is written

pub chunks-preserved : goal.chunks-preserved
chunks-preserved g c =
    let at = goal.at.chunks-preserved g c in
    (tells g at.After-open_chunk).more c.if-last.false _ (has g at.After-write_whole) _ c.in_default.ensures.written

pub returns-clause-damaged : goal.returns-clause-damaged
returns-clause-damaged g c damage is =
    let same : Damage.TooLong ≡ damage = (cc) in
    subst (HasDamage (g.R.Read.remaining c.args.reader.now) c.args.key.now _ _) same
    (too-long c.args.key.now c.in-Ok.salt c.in-Ok.ensures.size (omega (arith, c.chunks-test.false)) c.chunks.invariant
    (omega (arith, c.chunks-test.false)))

pub returns-clause-only_right : goal.returns-clause-only_right
returns-clause-only_right g c =
    so-far c.args.key.now c.in-Ok.salt c.in-Ok.ensures.size (omega (arith, c.chunks-test.false)) c.chunks.invariant
