use Rattle.std.proofs.Common.{◌∙◌, ap}
use Rattle.secretstream.specs.Stream.{moved, after}
use Rattle.secretstream.proofs.state.State.push.Goals as goal

pub returns-clause-next : goal.returns-clause-next
unfolding after
returns-clause-next g c =
    c.advance.ensures ∙ ap (λ mac. moved c.args.self.now mac c.args.tag) c.in_ok-mac.ensures.mac
