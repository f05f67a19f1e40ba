use Rattle.std.proofs.Common.{◌∙◌, ap}
use Rattle.secretstream.specs.Stream.{moved, after}
use Rattle.secretstream.proofs.state.State.pull.Goals as goal

pub returns-in-Ok-clause-next : goal.returns-in-Ok-clause-next
unfolding after
returns-in-Ok-clause-next g c =
    c.advance.ensures ∙ ap (λ mac. moved c.args.self.now mac c.in-Ok.opened.0) c.in-Ok.ensures.mac
