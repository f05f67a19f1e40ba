use Rattle.std.proofs.Common.{◌≤◌, length, take}
use Rattle.std.specs.Io.KnownBytes.{Appends}
use Rattle.sealed_file.proofs.stream.write_whole.Given as goal

abbrev pub invariant-tries : goal.invariant-tries
invariant-tries g l = (l.done ≤ length l.bytes)
    × Appends (g.W.Write.contents l.initial.writer) (g.W.Write.contents l.writer) (take l.done l.bytes)
