use Rattle.std.proofs.Common.{◌≡◌, ◌+◌, ◌-◌, ◌≤◌, length, take, drop}
use Rattle.chacha20.specs.ChaCha.{keystream, xor_stream}
use Rattle.examples.proofs.pieces.apply_in_pieces.Given as goal

abbrev pub invariant-pieces : goal.invariant-pieces
invariant-pieces g l =
    let cipher = g.C.Keystream in
    let old = l.fn.cipher in
    let whole = l.initial.bytes in
    record {
      within : l.done ≤ length whole;
      fixed : cipher.fixed l.cipher ≡ cipher.fixed old;
      position : cipher.position l.cipher ≡ cipher.position old + l.done;
      bytes : take l.done l.bytes
          ≡ xor_stream (keystream cipher.modulus (cipher.block_at (cipher.fixed old))) (cipher.position old)
          (take l.done whole);
      rest : drop l.done l.bytes ≡ drop l.done whole;
    }

abbrev pub decreases-pieces : goal.decreases-pieces
decreases-pieces g l = length l.bytes - l.done
