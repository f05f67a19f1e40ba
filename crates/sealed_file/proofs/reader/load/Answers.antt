use Rattle.std.proofs.Common.{◌≡◌, ◌≤◌, ◌-◌, ◌++◌, ◌∙◌, inl, inr, length, length-append, length-take-le, take, drop, arith, refl, sym, ap, subst, le_refl}
use Rattle.std.proofs.lemmas.List.{take-append-le}
use Rattle.std.proofs.lemmas.Slice.{take-put_mid_below}
use Rattle.sealed_file.specs.Ranges.{File, HasChunk}
use Rattle.sealed_file.proofs.RangeLemmas.{load-right, load-wrong}
use Rattle.sealed_file.proofs.reader.load.Goals.{then-n-chunk-via-then-n-chunk, then-n-chunk-via-else-n-chunk+then-not-open_chunk}
use Rattle.sealed_file.proofs.reader.load.Goals as goal

pub returns-then-n-chunk-clause-damaged : goal.returns-then-n-chunk-clause-damaged
returns-then-n-chunk-clause-damaged g c damage is =
    let size = c.min.result in
    let wide : length (take size c.args.buf.now) ≡ size =
    length-take-le size c.args.buf.now (omega (arith, c.min.ensures, c.told-buf)) in
    load-wrong (record { key = c.args.key.now; salt = c.args.salt.now; bytes = g.R.ReadAt.bytes c.args.source.now })
    c.args.len c.args.number c.in-Ok.n _ c.fill_at.new.buf c.last_chunk.result c.last_chunk.ensures.value c.requires.len
    c.in-Ok.ensures.read c.fill_at.auto.buf (omega (arith, wide, c.min.ensures, c.saturating_sub.ensures))
    c.in-Ok.ensures.bound damage (cc)
    (elim c.then-n-chunk.branch [
      | then-n-chunk-via-then-n-chunk w ↦ inl (omega (arith, w.if-n-chunk.true, c.fill_at.auto.buf))
      | then-n-chunk-via-else-n-chunk+then-not-open_chunk w ↦ inr (w.if-not-open_chunk.ensures.wrong refl)
    ])

pub returns-clause-right : goal.returns-clause-right
returns-clause-right g c =
    let size = c.min.result in
    let wide : length (take size c.args.buf.now) ≡ size =
    length-take-le size c.args.buf.now (omega (arith, c.min.ensures, c.told-buf)) in
    let new = c.fill_at.new.buf in
    let f : File =
    record { key = c.args.key.now; salt = c.args.salt.now; bytes = g.R.ReadAt.bytes c.args.source.now } in
    let opened = c.if-not-open_chunk.ensures in
    let bytes = c.open_chunk.new.bytes in
    let rest = drop size c.args.buf.now in
    let n = c.in-Ok.n - 16 in
    let kept = c.open_chunk.auto.bytes in
    let long : length new - 16 ≡ n = omega (arith, c.if-n-chunk.false, c.in-Ok.ensures.bound, c.fill_at.auto.buf) in
    let fits : n ≤ length bytes = omega (arith, long, kept) in
    let text : take (length new - 16) bytes ≡ take n (bytes ++ rest) =
    ap (λ k. take k bytes) long ∙ sym (take-append-le n bytes rest fits) in
    subst (HasChunk f c.args.number)
    (text ∙ sym (take-put_mid_below _ _ _ _ _ (le_refl _) (omega (arith, fits, length-append bytes rest))))
    (load-right f c.args.len c.args.number c.in-Ok.n _ new c.last_chunk.result c.last_chunk.ensures.value c.requires.len
    c.in-Ok.ensures.read c.fill_at.auto.buf (omega (arith, wide, c.min.ensures, c.saturating_sub.ensures))
    c.in-Ok.ensures.bound (take (length new - 16) bytes)
    (λ later. omega (arith, (opened.long refl).1 later, length-take-le (length new - 16) bytes (omega (arith, kept))))
    (opened.right refl))

pub returns-clause-size : goal.returns-clause-size
returns-clause-size g c =
    let size = c.min.result in
    let wide : length (take size c.args.buf.now) ≡ size =
    length-take-le size c.args.buf.now (omega (arith, c.min.ensures, c.told-buf)) in
    let long = (c.if-not-open_chunk.ensures.long refl).0 in
    omega (
      arith,
      c.min.ensures,
      c.saturating_sub.ensures,
      c.if-n-chunk.false,
      c.in-Ok.ensures.bound,
      wide,
      long,
      c.fill_at.auto.buf,
    )
