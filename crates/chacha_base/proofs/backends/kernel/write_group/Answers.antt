use Rattle.std.proofs.Common.{◌<◌, ◌*◌, Some, ap, sym, subst, ◌∙◌}
use Rattle.chacha_base.specs.ChaCha.{bytes}
use Rattle.chacha_base.specs.State.{state_after}
use Rattle.chacha_base.proofs.CountsLemmas.{plus_rounds}
use Rattle.chacha_base.proofs.backends.kernel.write_group.Goals as goal

-- answered for speed
pub returns-clause-blocks : goal.returns-clause-blocks
returns-clause-blocks g c i less =
    let inside : i < g.row.W = subst (λ n. i < n) c.requires.all less in
    c.store.ensures i (subst (λ n. i < n) (sym c.requires.width) inside)
    ∙ ap (λ w. Some (bytes w)) (c.mixed_group.ensures.blocks i inside)

-- answered for speed
pub returns-clause-state : goal.returns-clause-state
returns-clause-state g c =
    c.advance.ensures ∙ ap (λ k. state_after g.V.Variant.layout k c.args.state.now) (sym c.requires.all)

-- answered for speed
pub returns-clause-steps : goal.returns-clause-steps
returns-clause-steps g c =
    c.mixed_group.ensures.steps ∙ ap (plus_rounds (2 * g.G.Group.ROUND_STEPS * g.R.Rounds.COUNT)) c.add_par.ensures
