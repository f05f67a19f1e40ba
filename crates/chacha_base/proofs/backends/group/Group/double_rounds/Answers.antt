use Rattle.std.proofs.Common.{◌≡◌, ◌+◌, ◌*◌, refl, ap, ◌∙◌, arith, add-one}
use Rattle.chacha_base.specs.ChaCha.{columns, diagonals, rounds}
use Rattle.chacha_base.proofs.CountsLemmas.{counted-double_round}
use Rattle.chacha_base.proofs.backends.group.Group.double_rounds.Goals as goal

pub rounds-init : goal.rounds-init
unfolding rounds
rounds-init g c =
    let none : c.args.steps.now.rounds ≡ c.args.steps.now.rounds + 2 * g.Self.Group.ROUND_STEPS * 0 = omega arith in
    record {
      blocks = λ b h. refl;
      steps = ap (λ n. record c.args.steps.now { rounds = n }) none;
    }

pub rounds-preserved : goal.rounds-preserved
unfolding rounds
rounds-preserved g c =
    let n = c.rounds._round in
    record {
      blocks = λ b h. rw (add-one n) (c.diagonal_round-states.ensures.blocks b h
          ∙ ap diagonals (c.column_round.ensures.blocks b h ∙ ap columns (c.rounds.invariant.blocks b h)));
      steps = counted-double_round g.Self.Group.ROUND_STEPS n c.args.steps.now
          c.rounds.invariant.steps c.column_round.ensures.steps c.diagonal_round-states.ensures.steps;
    }
