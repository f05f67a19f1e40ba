use Rattle.std.proofs.Common.{◌≡◌, IsFalse}
use Rattle.sealed_file.proofs.reader.size_of.Given as goal

abbrev pub invariant-tries : goal.invariant-tries
invariant-tries g l = IsFalse (g.R.ReadAt.may_fail l.source) → l.tries ≡ 0
