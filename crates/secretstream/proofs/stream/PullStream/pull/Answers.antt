use Rattle.std.proofs.Common.{arith, length, ◌∙◌, refl, ap, ap₂, sym}
use Rattle.secretstream.specs.Stream.{State, message_of, after}
use Rattle.secretstream.proofs.MessageLemmas.{message_of-same}
use Rattle.secretstream.proofs.stream.PullStream.pull.Goals as goal

pub returns-clause-tag : goal.returns-clause-tag
returns-clause-tag c byte text is =
    c.from_byte.ensures.byte
    ∙ (message_of-same c.args.self.now c.args.aad.now _ byte _ text
    (ap (λ (s : State). message_of s c.args.aad.now c.in_ok-byte.byte c.pull.new.output) (sym c.self.view_is)
    ∙ sym c.in_ok-byte.ensures.message ∙ is)).0

pub returns-clause-text : goal.returns-clause-text
returns-clause-text c byte text is =
    (message_of-same c.args.self.now c.args.aad.now _ byte _ text
    (ap (λ (s : State). message_of s c.args.aad.now c.in_ok-byte.byte c.pull.new.output) (sym c.self.view_is)
    ∙ sym c.in_ok-byte.ensures.message ∙ is)).1

pub returns-clause-in_step : goal.returns-clause-in_step
returns-clause-in_step c byte text is =
    c.in_ok-byte.ensures.next
    ∙ ap (λ (s : State). after s c.args.aad.now c.in_ok-byte.byte c.pull.new.output) c.self.view_is
    ∙ ap₂ (after c.args.self.now c.args.aad.now)
    (sym c.from_byte.ensures.byte ∙ returns-clause-tag c byte text is) (returns-clause-text c byte text is)

pub returns-clause-opens : goal.returns-clause-opens
returns-clause-opens c byte text is =
    let sent = c.in_ok-byte.ensures.accepted.0 refl in
    let same =
    message_of-same c.args.self.now c.args.aad.now sent.0 byte sent.1 text
    (ap (λ (s : State). message_of s c.args.aad.now sent.0 sent.1) (sym c.self.view_is) ∙ sym sent.3 ∙ is) in
    (λ ok. omega (arith, sent.2, ap length same.1), λ fits. refl)
