use Rattle.std.proofs.Common.{take, arith, inr, refl, codes}
use Rattle.std.proofs.lemmas.Slice.Eq.{bytes_eq-Decides}
use Rattle.std.proofs.lemmas.Option.{IfSome_then}
use Rattle.key_file.proofs.KeyLemmas.{parts, joined}
use Rattle.key_file.proofs.key_of.Goals as goal

pub returns-then-file-eq32-clause-line : goal.returns-then-file-eq32-clause-line
returns-then-file-eq32-clause-line c key end bytes size ends e =
    let long = (parts key end c.args.file.now size e).0 in
    absurd (omega (arith, long))

pub returns-in_err-text-clause-line : goal.returns-in_err-text-clause-line
returns-in_err-text-clause-line c key end bytes size ends e =
    let long = (parts key end c.args.file.now size e).0 in
    absurd (omega (arith, long, c.in_err-text.ensures.cases, c.in_ok-strip_prefix.ensures.cases.2))

pub returns-then-is_line_end-clause-line : goal.returns-then-is_line_end-clause-line
returns-then-is_line_end-clause-line c key end bytes size ends e =
    let split = rw c.in_ok-strip_prefix.ensures.cases.1 at c.in_ok-text.ensures.cases in
    c.decoded.ensures.reads key bytes size (rw split.1 (parts key end c.args.file.now size e).1)

pub returns-else-is_line_end-clause-line : goal.returns-else-is_line_end-clause-line
returns-else-is_line_end-clause-line c key end bytes size ends e =
    let split = rw c.in_ok-strip_prefix.ensures.cases.1 at c.in_ok-text.ensures.cases in
    let bad = c.if-is_line_end.ensures.1 (rw (split.2, (parts key end c.args.file.now size e).2) ends) in
    cc bad

pub returns-then-is_line_end-clause-only : goal.returns-then-is_line_end-clause-only
returns-then-is_line_end-clause-only c =
    let rest = c.in_ok-strip_prefix.ensures.cases in
    let prefix = (bytes_eq-Decides (take 12 c.args.file.now) (codes "seal-key-v1:")).0 rest.0 in
    let split = rw rest.1 at c.in_ok-text.ensures.cases in
    IfSome_then c.decoded.result c.decoded.ensures.only (λ key text. inr (
      c.in_ok-text.end.now,
      c.if-is_line_end.ensures.0 refl,
      rw split.2 (joined c.args.file.now key prefix (rw split.1 at text)),
    ))
