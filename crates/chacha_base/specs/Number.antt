-- The number that a chain of snapshots stands for.
use Rattle.std.specs.Prelude.{ℕ, ◌+◌}
use Rattle.chacha_base.specs.declared.rounds.steps.Number.{Number, Zero, After'}

abbrev pub value_of : Number → ℕ
value_of Zero = 0
value_of (After' p n) = value_of n + 1
