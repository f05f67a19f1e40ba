use Rattle.std.proofs.Common.{ap, ◌∙◌, add-one}
use Rattle.chacha_base.specs.ChaCha.{columns, diagonals, rounds}
use Rattle.chacha_base.proofs.CountsLemmas.{counted-double_round}
use Rattle.chacha_base.proofs.rounds.double_rounds.Goals as goal

-- answered for speed
pub rounds-preserved : goal.rounds-preserved
unfolding rounds
rounds-preserved c =
    let n = c.rounds._round in
    record {
      state = rw (add-one n) (c.diagonal_round.ensures.state
          ∙ ap diagonals (c.column_round.ensures.state ∙ ap columns c.rounds.invariant.state));
      steps = counted-double_round 4 n c.args.steps.now
          c.rounds.invariant.steps c.column_round.ensures.steps c.diagonal_round.ensures.steps;
    }
