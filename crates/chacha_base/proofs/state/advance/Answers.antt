use Rattle.std.proofs.Common.{◌+◌, ◌%◌, ◌∙◌, ap, ap₂}
use Rattle.chacha_base.specs.State.{state_at}
use Rattle.chacha_base.proofs.state.advance.Goals as goal

pub returns : goal.returns
returns g c =
    c.set_counter.ensures.state
    ∙ ap (λ n. state_at g.V.Variant.layout n c.args.state.now)
    (c.advanced_by-next.ensures ∙ ap₂ (λ v m. (v + c.args.blocks) % m) c.counter.ensures.value g.met.V.Variant.counters)
