use Rattle.std.proofs.Common.{◌≡◌, ◌≤◌, IsFalse, IfSome, length, take, drop}
use Rattle.sealed_file.proofs.file.fill_at.Given as goal

abbrev pub invariant-reads : goal.invariant-reads
invariant-reads g l =
    (l.at ≤ length l.buf)
    × IfSome (g.R.ReadAt.bytes l.file) (λ all. take l.at l.buf ≡ take l.at (drop l.place all))
    × (IsFalse (g.R.ReadAt.may_fail l.file) → l.tries ≤ l.at)
