use Rattle.std.proofs.Common.{ap, ◌∙◌}
use Rattle.chacha_base.specs.ChaCha.{rounds, add_states}
use Rattle.chacha_base.proofs.backends.soft.block_words.Goals as goal

-- answered for speed
pub returns-clause-words : goal.returns-clause-words
returns-clause-words g c =
    let start = c.args.state.now in
    c.add_words.ensures
    ∙ ap (λ s. add_states s start) (c.double_rounds.ensures.state ∙ ap (λ n. rounds n start) c.COUNT.ensures)
