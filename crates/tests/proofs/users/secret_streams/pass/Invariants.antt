use Rattle.std.proofs.Common.{◌≡◌}
use Rattle.tests.proofs.users.secret_streams.pass.Given as goal

abbrev pub invariant-each : goal.invariant-each
invariant-each l = record {
  texts : l.texts ≡ l.initial.texts;
  same : l.sender ≡ l.receiver;
}
