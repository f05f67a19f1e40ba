use Rattle.std.proofs.Common.{◌≡◌, ◌-◌, length}
use Rattle.sealed_file.specs.SealedReader.{file, text_len, position, IsSame}
use Rattle.sealed_file.proofs.WindowLemmas.{Filled}
use Rattle.sealed_file.proofs.reader.SealedReader.read_exact_at.Given as goal

abbrev pub invariant-chunks : goal.invariant-chunks
invariant-chunks g l =
    Filled (file l.initial.self) (text_len l.initial.self) l.start l.done l.initial.window l.window
    × IsSame l.initial.self l.self × (position l.self ≡ position l.initial.self)

abbrev pub decreases-chunks : goal.decreases-chunks
decreases-chunks g l = length l.initial.window - l.done
