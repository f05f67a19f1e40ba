use Rattle.std.proofs.Common.{◌≤◌, ◌∙◌, ◌^◌, ◌+◌, [], length, arith, sym, ap}
use Rattle.chacha20.proofs.StdLemmas.{on_ok-holds}
use Rattle.secretstream.specs.Stream.{State, message_of, after}
use Rattle.secretstream.specs.Tags.{byte_of}
use Rattle.tests.proofs.users.secret_streams.pass_one.Goals as goal

-- the receiver accepts what the sender made
pub returns-clause-accepted : goal.returns-clause-accepted
returns-clause-accepted c =
    let text = c.args.text.now in
    let byte = byte_of c.args.tag in
    let sent = c.in_ok-push.ensures.message ∙ ap (λ (s : State). message_of s [] byte text) c.requires in
    let short : 128 + length text ≤ 2 ^ 38 = omega (arith, c.told-text) in
    (c.pull.ensures.opens byte text sent).1 short

pub returns-clause-tag : goal.returns-clause-tag
returns-clause-tag c =
    let text = c.args.text.now in
    let byte = byte_of c.args.tag in
    c.pull.ensures.tag byte text
    (c.in_ok-push.ensures.message ∙ ap (λ (s : State). message_of s [] byte text) c.requires)

pub returns-clause-text : goal.returns-clause-text
returns-clause-text c =
    let text = c.args.text.now in
    let byte = byte_of c.args.tag in
    let sent = c.in_ok-push.ensures.message ∙ ap (λ (s : State). message_of s [] byte text) c.requires in
    on_ok-holds c.pull.result (returns-clause-accepted c) (c.pull.ensures.text byte text sent)

pub returns-clause-same : goal.returns-clause-same
returns-clause-same c =
    let text = c.args.text.now in
    let byte = byte_of c.args.tag in
    let sent = c.in_ok-push.ensures.message ∙ ap (λ (s : State). message_of s [] byte text) c.requires in
    c.in_ok-push.ensures.next ∙ ap (λ (s : State). after s [] byte text) c.requires
    ∙ sym (on_ok-holds c.pull.result (returns-clause-accepted c) (c.pull.ensures.in_step byte text sent))
