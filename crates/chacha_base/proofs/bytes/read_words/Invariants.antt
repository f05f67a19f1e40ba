use Rattle.std.proofs.Common.{◌≡◌, ◌*◌, take}
use Rattle.chacha_base.specs.ChaCha.{words}
use Rattle.chacha_base.proofs.bytes.read_words.Given as goal

abbrev pub invariant-loop-i : goal.invariant-loop-i
invariant-loop-i l = take l.i l.output ≡ words (take (4 * l.i) l.input)
