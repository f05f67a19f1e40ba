use Rattle.std.proofs.Common.{ap, ◌∙◌}
use Rattle.chacha_base.proofs.rounds.steps.Steps.new.Goals as goal

-- answered for speed
pub returns : goal.returns
returns c =
    ap (λ n. record { par = n; other = c.new-2.result; rounds = c.new-3.result }) c.new.ensures
    ∙ ap (λ n. record { par = 0; other = n; rounds = c.new-3.result }) c.new-2.ensures
    ∙ ap (λ n. record { par = 0; other = 0; rounds = n }) c.new-3.ensures
