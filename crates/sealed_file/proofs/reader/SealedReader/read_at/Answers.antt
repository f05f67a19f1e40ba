use Rattle.std.proofs.Common.{◌+◌, ◌/◌, ◌%◌, ◌∙◌, length-take-le, take, ap, arith}
use Rattle.std.specs.List.{slice_range}
use Rattle.sealed_file.specs.Ranges.{empty}
use Rattle.sealed_file.specs.SealedReader.{file}
use Rattle.sealed_file.proofs.ListLemmas.{passed-on}
use Rattle.sealed_file.proofs.RangeLemmas.{copied-range, no-error, number-within, reads-text}
use Rattle.sealed_file.proofs.reader.SealedReader.read_at.Goals as goal

pub returns-in_err-len-clause-damaged : goal.returns-in_err-len-clause-damaged
returns-in_err-len-clause-damaged g c damage is =
    c.in_err-len.ensures.damaged damage (passed-on c.from_residual.result _ _ c.from_residual.ensures.1 is)

pub returns-clause-right : goal.returns-clause-right
returns-clause-right g c =
    copied-range (file c.args.self.now) (c.args.start / 65536) (c.args.start % 65536) c.copy_text.result c.args.start _
    c.args.window.now c.copy_text.new.window c.in_ok-len.ensures.right (omega arith)
    (omega (arith, c.copy_text.ensures.count)) c.copy_text.ensures.copied

pub returns-then-start-text_len-clause-right : goal.returns-then-start-text_len-clause-right
returns-then-start-text_len-clause-right g c = empty c.args.start

pub returns-clause-text : goal.returns-clause-text
returns-clause-text g c text reads =
    let n = c.copy_text.result in
    reads-text (file c.args.self.now) c.args.self.now.len c.args.self.now.begins text reads c.args.start
    (take n c.copy_text.new.window) (returns-clause-right g c)
    ∙ ap (λ w. slice_range text c.args.start (c.args.start + w))
    (length-take-le n c.copy_text.new.window (omega (arith, c.copy_text.auto.window, c.copy_text.ensures.count)))

pub returns-in_err-len-clause-accepted : goal.returns-in_err-len-clause-accepted
returns-in_err-len-clause-accepted g c text reads sure =
    let self = c.args.self.now in
    let within = number-within (c.args.start / 65536) self.len
    (omega (arith, c.if-start-text_len.false, c.text_len.ensures.value)) in
    absurd (no-error (file self) self.len self.begins text reads c.in_err-len.field-0.0 _ _ within sure
    c.in_err-len.ensures.fails c.in_err-len.ensures.damaged)
