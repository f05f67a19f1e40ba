use Rattle.std.proofs.Common.{◌≡◌, ◌*◌, take}
use Rattle.chacha_base.specs.ChaCha.{bytes}
use Rattle.chacha_base.proofs.bytes.write_bytes.Given as goal

abbrev pub invariant-loop-i : goal.invariant-loop-i
invariant-loop-i l = take (4 * l.i) l.output ≡ bytes (take l.i l.input)
