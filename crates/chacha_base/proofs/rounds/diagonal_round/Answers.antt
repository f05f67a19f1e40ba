use Rattle.chacha_base.proofs.RoundLemmas.{diagonals_are}
use Rattle.chacha_base.proofs.rounds.diagonal_round.Goals as goal

pub returns-clause-state : goal.returns-clause-state
returns-clause-state c = cc (diagonals_are c.args.state.now c.told-state)
