use Rattle.std.proofs.Common.{◌≤◌, length, take}
use Rattle.std.specs.Io.KnownBytes.{Consumes}
use Rattle.sealed_file.proofs.stream.fill.Given as goal

abbrev pub invariant-reads : goal.invariant-reads
invariant-reads g l =
    (l.at ≤ length l.buf)
    × Consumes (g.R.Read.remaining l.initial.reader) (g.R.Read.remaining l.reader) (take l.at l.buf)
