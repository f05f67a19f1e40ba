use Rattle.chacha_base.proofs.RoundLemmas.{columns_are}
use Rattle.chacha_base.proofs.rounds.column_round.Goals as goal

pub returns-clause-state : goal.returns-clause-state
returns-clause-state c = cc (columns_are c.args.state.now c.told-state)
