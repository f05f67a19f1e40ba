use Rattle.std.specs.List.{All}
use Rattle.chacha20.specs.GeneratorRuns.{InData}
use Rattle.known_answers.proofs.generators.list_of.Given as goal

abbrev pub invariant-each : goal.invariant-each
invariant-each l = All (InData l.bytes) l.list
