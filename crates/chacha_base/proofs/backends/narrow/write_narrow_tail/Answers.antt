use Rattle.std.proofs.Common.{◌+◌, ◌*◌, length, ap, ◌∙◌}
use Rattle.chacha_base.proofs.CountsLemmas.{grows-narrow}
use Rattle.chacha_base.proofs.backends.narrow.write_narrow_tail.Goals as goal

pub returns-clause-rounds : goal.returns-clause-rounds
returns-clause-rounds g c =
    c.write_tail.ensures.rounds ∙ ap (λ m. c.args.steps.now.rounds + m * g.R.Rounds.COUNT) c.requires.narrowest

pub returns-clause-steps : goal.returns-clause-steps
returns-clause-steps g c =
    grows-narrow (2 * g.G.Group.ROUND_STEPS * g.R.Rounds.COUNT) g.R.Rounds.COUNT _ (length c.args.blocks.now)
    c.requires.up_to_8.0 c.requires.up_to_8.1 c.write_tail.ensures.steps (returns-clause-rounds g c)
