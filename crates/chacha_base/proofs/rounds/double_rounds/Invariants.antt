use Rattle.std.proofs.Common.{◌≡◌, ◌+◌, ◌*◌}
use Rattle.chacha_base.specs.ChaCha.{rounds}
use Rattle.chacha_base.proofs.rounds.double_rounds.Given as goal

abbrev pub invariant-rounds : goal.invariant-rounds
invariant-rounds l = record {
  state : l.state ≡ rounds l._round l.initial.state;
  steps : l.steps ≡ record l.initial.steps { rounds = l.initial.steps.rounds + 8 * l._round };
}
