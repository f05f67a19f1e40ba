use Rattle.std.specs.Prelude.{IfSome, IsOk}
use Rattle.std.specs.List.{AllWithin}
use Rattle.known_answers.proofs.report.all_right.Given as goal

abbrev pub invariant-each : goal.invariant-each
invariant-each l = AllWithin (λ verdict. IfSome verdict IsOk) l.verdicts 0 l.i
