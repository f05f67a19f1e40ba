use Rattle.std.proofs.Common.{◌≡◌, ◌∙◌, ◌+◌, ◌-◌, ◌/◌, Err, IsTrue, length-drop, length, take, take_all, drop, arith, refl, sym, ap, subst, true≢false}
use Rattle.std.proofs.lemmas.List.{take_rest}
use Rattle.std.specs.List.{slice_range}
use Rattle.sealed_file.specs.Ranges.{HasRange, IsWrong, count, empty}
use Rattle.sealed_file.specs.SealedReader.{file, text_len}
use Rattle.sealed_file.proofs.RangeLemmas.{length-read, none-wrong, number-within, reads-text}
use Rattle.sealed_file.proofs.WindowLemmas.{filled-more, some-read, stops-at}
use Rattle.sealed_file.proofs.reader.SealedReader.read_exact_at.Given.{Over}
use Rattle.sealed_file.proofs.reader.SealedReader.read_exact_at.Goals as goal

pub chunks-init : goal.chunks-init
chunks-init g c = (
  record {
    fits = omega (arith, c.is_within.ensures.0 c.if-not-is_within.false, c.text_len.ensures.value);
    within = omega arith;
    same = refl;
    right = empty c.args.start;
    rest = refl;
    border = λ some. absurd (omega (arith, some));
  },
  (refl, refl, refl),
  refl,
)

pub chunks-preserved : goal.chunks-preserved
chunks-preserved g c =
    let (filled, (same_file, same_fail, same_len), same_pos) = c.chunks.invariant in
    let got = c.in-Ok.ensures in
    let (next_file, next_fail, next_len) = got.same.0 in
    let at = c.args.start + c.chunks.done in
    let room = take (length c.chunks.window - c.chunks.done) (drop c.chunks.done c.chunks.window) in (
      filled-more (file c.args.self.now) (text_len c.args.self.now) c.args.start c.chunks.done c.in-Ok.n
          c.args.window.now c.chunks.window c.read_at.new.window filled c.read_at.auto.window got.rest
          (subst (λ f. HasRange f at (take c.in-Ok.n c.read_at.new.window)) same_file got.right)
          (got.count ∙ ap (λ t. count t at (length room)) same_len),
      (next_file ∙ same_file, next_fail ∙ same_fail, next_len ∙ same_len),
      got.same.1 ∙ same_pos,
    )

pub chunks-smaller : goal.chunks-smaller
chunks-smaller g c =
    let (filled, (same_file, same_fail, same_len), same_pos) = c.chunks.invariant in
    let room = take (length c.chunks.window - c.chunks.done) (drop c.chunks.done c.chunks.window) in
    let left : length room ≡ length c.args.window.now - c.chunks.done =
    ap length (take_rest c.chunks.window c.chunks.done) ∙ length-drop c.chunks.done c.chunks.window
    ∙ ap (λ l. l - c.chunks.done) filled.same in
    let some = some-read (c.args.start + c.chunks.done) c.in-Ok.n (length room) (text_len c.args.self.now)
    (c.in-Ok.ensures.count ∙ ap (λ t. count t (c.args.start + c.chunks.done) (length room)) same_len)
    (omega (arith, filled.fits, left, filled.within)) (omega (arith, left, c.chunks-test.true, filled.same)) in
    omega (arith, some, c.chunks-test.true, filled.same)

pub returns-then-not-is_within-clause-accepted : goal.returns-then-not-is_within-clause-accepted
returns-then-not-is_within-clause-accepted g c text reads sure =
    let self = c.args.self.now in
    let long = length-read (file self) self.len self.begins text reads in (
      λ no. absurd (true≢false (sym no)),
      λ fits. absurd (true≢false (sym (c.is_within.ensures.1 (omega (arith, fits, long, c.text_len.ensures.value)))
          ∙ c.if-not-is_within.true)),
    )

pub returns-in-Err-Read-clause-fails : goal.returns-in-Err-Read-clause-fails
returns-in-Err-Read-clause-fails g c e is =
    let (filled, (same_file, same_fail, same_len), same_pos) = c.chunks.invariant in (
      subst IsTrue same_fail (c.in-Err-Read.ensures.fails c.in-Err-Read.e (ap Err c.in-Err-Read.field-0-is)),
      (
        _,
        stops-at (file c.args.self.now) (text_len c.args.self.now) c.args.start c.chunks.done c.args.window.now
            c.chunks.window c.read_at.new.window filled (omega (arith, c.chunks-test.true, filled.same))
            c.in-Err-Read.ensures.unchanged,
      ),
    )

pub returns-in-Err-Read-clause-accepted : goal.returns-in-Err-Read-clause-accepted
returns-in-Err-Read-clause-accepted g c text reads sure =
    absurd (true≢false (sym (returns-in-Err-Read-clause-fails g c c.in-Err-Read.e refl).0 ∙ sure))

-- the chunk that was found wrong
wrong : (g : Over) (c : goal.In-Err-Damaged g)
    → IsWrong (file c.args.self.now) ((c.args.start + c.chunks.done) / 65536) c.in-Err-Damaged.damage
wrong g c =
    let (filled, (same_file, same_fail, same_len), same_pos) = c.chunks.invariant in
    subst (λ f. IsWrong f ((c.args.start + c.chunks.done) / 65536) c.in-Err-Damaged.damage) same_file
    (c.in-Err-Damaged.ensures.damaged c.in-Err-Damaged.damage (ap Err c.in-Err-Damaged.field-0-is))

pub returns-in-Err-Damaged-clause-damaged : goal.returns-in-Err-Damaged-clause-damaged
returns-in-Err-Damaged-clause-damaged g c damage is =
    let filled = c.chunks.invariant.0 in
    let same : c.in-Err-Damaged.damage ≡ damage = (cc) in (
      _,
      stops-at (file c.args.self.now) (text_len c.args.self.now) c.args.start c.chunks.done c.args.window.now
          c.chunks.window c.read_at.new.window filled (omega (arith, c.chunks-test.true, filled.same))
          c.in-Err-Damaged.ensures.unchanged,
      subst (IsWrong (file c.args.self.now) ((c.args.start + c.chunks.done) / 65536)) same (wrong g c),
    )

pub returns-in-Err-Damaged-clause-accepted : goal.returns-in-Err-Damaged-clause-accepted
returns-in-Err-Damaged-clause-accepted g c text reads sure =
    let self = c.args.self.now in
    let filled = c.chunks.invariant.0 in
    absurd (none-wrong (file self) self.len self.begins text reads _ c.in-Err-Damaged.damage
    (number-within _ self.len (omega (arith, filled.fits, c.chunks-test.true, filled.same))) (wrong g c))

pub returns-clause-right : goal.returns-clause-right
returns-clause-right g c =
    let filled = c.chunks.invariant.0 in
    subst (HasRange (file c.args.self.now) c.args.start)
    (take_all c.chunks.done c.chunks.window (omega (arith, c.chunks-test.false, filled.same))) filled.right

pub returns-clause-text : goal.returns-clause-text
returns-clause-text g c text reads =
    let self = c.args.self.now in
    reads-text (file self) self.len self.begins text reads c.args.start c.chunks.window (returns-clause-right g c)
    ∙ ap (λ w. slice_range text c.args.start (c.args.start + w)) c.chunks.invariant.0.same

pub returns-clause-accepted : goal.returns-clause-accepted
returns-clause-accepted g c text reads sure =
    let self = c.args.self.now in
    let long = length-read (file self) self.len self.begins text reads in
    (λ _. omega (arith, c.chunks.invariant.0.fits, long), λ _. refl)
