use Rattle.std.proofs.Common.{◌≡◌, ◌*◌, ◌++◌, take, drop}
use Rattle.chacha_base.specs.ChaCha.{xor_stream}
use Rattle.chacha20.specs.Blocks.{byte_of}
use Rattle.chacha20.proofs.chacha_core.engine.InPlaceTarget.xor_blocks.Given as goal

abbrev pub invariant-loop-i : goal.invariant-loop-i
invariant-loop-i l =
    l.part ≡ xor_stream (byte_of l.blocks) 0 (take (64 * l.i) l.initial.part) ++ drop (64 * l.i) l.initial.part
