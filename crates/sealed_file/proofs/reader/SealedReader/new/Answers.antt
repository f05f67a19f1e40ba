use Rattle.std.proofs.Common.{Some, Err, ◌≡◌, ◌∙◌, IsErrAnd, length, take, inr, arith, sym, ap, subst}
use Rattle.sealed_file.specs.declared.error.Damage.{Damage}
use Rattle.sealed_file.specs.declared.error.ReadError.{ReadError}
use Rattle.sealed_file.specs.Ranges.{File, HasChunk, IsWrong, IsZeroFrom, first, last, text_size, whole}
use Rattle.sealed_file.specs.Sealed.{IsSealed, last_of, text_of}
use Rattle.sealed_file.proofs.FileLemmas.{length-sealed}
use Rattle.sealed_file.proofs.HeaderLemmas.{begins-with, front-damage}
use Rattle.sealed_file.proofs.ListLemmas.{for_some, passed-on, some_and}
use Rattle.sealed_file.proofs.RangeLemmas.{ends-at, last-size, no-error, sealed-text}
use Rattle.sealed_file.proofs.reader.SealedReader.new.Goals as goal

pub returns-in_err-salt-clause-damaged : goal.returns-in_err-salt-clause-damaged
returns-in_err-salt-clause-damaged g c damage is =
    let bytes = g.R.ReadAt.bytes c.args.source in
    let e = c.in_err-salt.field-0.0 in
    let gives : ReadError.Damaged damage ≡ ReadError.Damaged e =
    subst (λ r. IsErrAnd r (λ y. y ≡ ReadError.Damaged e)) is c.from_residual-in_err-salt.ensures.1 in
    let same : e ≡ damage = (cc) in
    whole (for_some bytes _
    (front-damage bytes (take c.in_ok-n.n c.fill_at.new.buf) damage c.in_ok-n.ensures.read
    (c.in_err-salt.ensures.damage ∙ ap Some same)))

pub returns-then-len-clause-opens : goal.returns-then-len-clause-opens
returns-then-len-clause-opens g c salt text bytes known (size, most, sealed) sure =
    let told = for_some (g.R.ReadAt.bytes c.args.source) _ c.in_ok-len.ensures.value bytes known in
    absurd (omega (arith, told, most, c.if-len.true, ap length sealed ∙ length-sealed c.args.key.now salt text size))

pub returns-then-len-clause-damaged : goal.returns-then-len-clause-damaged
returns-then-len-clause-damaged g c damage is =
    let same : Damage.TooLong ≡ damage = (cc) in
    whole (λ all known.
    let told = for_some (g.R.ReadAt.bytes c.args.source) _ c.in_ok-len.ensures.value all known in
    inr (sym same, omega (arith, told, c.if-len.true)))

pub returns-then-last-eq0-clause-damaged : goal.returns-then-last-eq0-clause-damaged
returns-then-last-eq0-clause-damaged g c damage is =
    let bytes = g.R.ReadAt.bytes c.args.source in
    let begins = begins-with bytes c.in_ok-len.len _ c.in_ok-salt.salt c.in_ok-len.ensures.value
    c.in_ok-n.ensures.read c.in_ok-salt.ensures.salt in
    let same : c.in-Err.e ≡ ReadError.Damaged damage = (cc) in
    let f : File = record { key = c.args.key.now; salt = c.in_ok-salt.salt; bytes = bytes } in
    first c.in_ok-salt.salt (λ all known. (begins all known).1)
    (subst (λ i. IsWrong f i damage) c.if-last-eq0.true (c.in-Err.ensures.damaged damage (ap Err same)))

pub returns-then-last-eq0-clause-opens : goal.returns-then-last-eq0-clause-opens
returns-then-last-eq0-clause-opens g c salt text all known is sure =
    let bytes = g.R.ReadAt.bytes c.args.source in
    let begins = begins-with bytes c.in_ok-len.len _ c.in_ok-salt.salt c.in_ok-len.ensures.value
    c.in_ok-n.ensures.read c.in_ok-salt.ensures.salt in
    let f : File = record { key = c.args.key.now; salt = c.in_ok-salt.salt; bytes = bytes } in
    absurd (no-error f c.in_ok-len.len begins text (sealed-text f salt text all known is) c.in-Err.e _ _
    (omega (arith, c.last_chunk-last.ensures.value)) sure c.in-Err.ensures.fails c.in-Err.ensures.damaged)

pub returns-in_err-load-clause-damaged : goal.returns-in_err-load-clause-damaged
returns-in_err-load-clause-damaged g c damage is =
    let bytes = g.R.ReadAt.bytes c.args.source in
    let begins = begins-with bytes c.in_ok-len.len _ c.in_ok-salt.salt c.in_ok-len.ensures.value
    c.in_ok-n.ensures.read c.in_ok-salt.ensures.salt in
    first c.in_ok-salt.salt (λ all known. (begins all known).1) (c.in_err-load.ensures.damaged damage
    (passed-on c.from_residual-in_err-load.result _ _ c.from_residual-in_err-load.ensures.1 is))

pub returns-in_err-load-clause-opens : goal.returns-in_err-load-clause-opens
returns-in_err-load-clause-opens g c salt text all known is sure =
    let bytes = g.R.ReadAt.bytes c.args.source in
    let begins = begins-with bytes c.in_ok-len.len _ c.in_ok-salt.salt c.in_ok-len.ensures.value
    c.in_ok-n.ensures.read c.in_ok-salt.ensures.salt in
    let f : File = record { key = c.args.key.now; salt = c.in_ok-salt.salt; bytes = bytes } in
    absurd (no-error f c.in_ok-len.len begins text (sealed-text f salt text all known is) c.in_err-load.field-0.0 0 _
    (omega arith) sure c.in_err-load.ensures.fails c.in_err-load.ensures.damaged)

pub returns-in-Err-clause-damaged : goal.returns-in-Err-clause-damaged
returns-in-Err-clause-damaged g c damage is =
    let bytes = g.R.ReadAt.bytes c.args.source in
    let begins = begins-with bytes c.in_ok-len.len _ c.in_ok-salt.salt c.in_ok-len.ensures.value
    c.in_ok-n.ensures.read c.in_ok-salt.ensures.salt in
    let same : c.in-Err.e ≡ ReadError.Damaged damage = (cc) in
    last c.in_ok-salt.salt (take c.in_ok-load.field-0 c.load-in-Err.new.buf) c.last_chunk-last.result
    (λ all known. ((begins all known).1, c.last_chunk-last.ensures.value ∙ ap last_of (begins all known).0))
    c.in_ok-load.ensures.right (c.in-Err.ensures.damaged damage (ap Err same))

pub returns-in-Err-clause-opens : goal.returns-in-Err-clause-opens
returns-in-Err-clause-opens g c salt text all known is sure =
    let bytes = g.R.ReadAt.bytes c.args.source in
    let begins = begins-with bytes c.in_ok-len.len _ c.in_ok-salt.salt c.in_ok-len.ensures.value
    c.in_ok-n.ensures.read c.in_ok-salt.ensures.salt in
    let f : File = record { key = c.args.key.now; salt = c.in_ok-salt.salt; bytes = bytes } in
    absurd (no-error f c.in_ok-len.len begins text (sealed-text f salt text all known is) c.in-Err.e _ _
    (omega (arith, c.last_chunk-last.ensures.value)) sure c.in-Err.ensures.fails c.in-Err.ensures.damaged)

pub invariant_of-result : goal.invariant_of-result
invariant_of-result g c =
    let bytes = g.R.ReadAt.bytes c.args.source in
    let begins = begins-with bytes c.in_ok-len.len _ c.in_ok-salt.salt c.in_ok-len.ensures.value
    c.in_ok-n.ensures.read c.in_ok-salt.ensures.salt in
    let f : File = record { key = c.args.key.now; salt = c.in_ok-salt.salt; bytes = bytes } in
    let len = c.in_ok-len.len in
    let buf = c.load.new.buf in
    let i = c.last_chunk-last.result in
    let right = c.in_default.ensures in
    let sizes = last-size len i c.in_default.field-0 c.last_chunk-last.ensures.value right.size right.some in
    record {
      fits = c.if-len.false;
      begins = begins;
      whole = sizes.1;
      right = for_some (Some i) (λ i. HasChunk f i (take (text_size (text_of len) i) buf))
          (subst (λ k. HasChunk f i (take k buf)) sizes.2 right.right);
      lent = subst (λ k. IsZeroFrom k buf) sizes.2 right.rest;
    }

pub returns-clause-end : goal.returns-clause-end
returns-clause-end g c =
    let bytes = g.R.ReadAt.bytes c.args.source in
    let right = c.in_default.ensures in
    ends-at (record { key = c.args.key.now; salt = c.in_ok-salt.salt; bytes = bytes }) c.in_ok-len.len
    c.last_chunk-last.result c.in_default.field-0 c.load.new.buf c.last_chunk-last.ensures.value right.size right.some
    (omega (arith, right.size)) (for_some bytes _ c.in_ok-len.ensures.value) right.right

pub returns-clause-reads : goal.returns-clause-reads
returns-clause-reads g c salt text is =
    let (all, known, is') = some_and (g.R.ReadAt.bytes c.args.source) (IsSealed c.args.key.now salt text) is in
    sealed-text _ salt text all known is'
