use Rattle.std.specs.List.{All}
use Rattle.chacha20.specs.Runs.{InSlices}
use Rattle.known_answers.proofs.ciphers.list_of.Given as goal

abbrev pub invariant-each : goal.invariant-each
invariant-each l = All (InSlices l.input l.bytes) l.list
