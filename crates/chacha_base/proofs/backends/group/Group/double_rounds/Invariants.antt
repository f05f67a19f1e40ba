use Rattle.std.proofs.Common.{◌≡◌, ℕ, ◌<◌, ◌+◌, ◌*◌}
use Rattle.chacha_base.specs.ChaCha.{rounds}
use Rattle.chacha_base.proofs.backends.group.Group.double_rounds.Given as goal

abbrev pub invariant-rounds : goal.invariant-rounds
invariant-rounds g l =
    let before = l.initial.steps in
    record {
      blocks : (b : ℕ) → b < g.Self.Group.BLOCKS
          → g.Self.Group.words_of l.states b ≡ rounds l._round (g.Self.Group.words_of l.fn.self b);
      steps : l.steps ≡ record before { rounds = before.rounds + 2 * g.Self.Group.ROUND_STEPS * l._round };
    }
