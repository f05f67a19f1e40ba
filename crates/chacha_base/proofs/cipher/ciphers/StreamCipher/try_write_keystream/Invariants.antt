use Rattle.std.proofs.Common.{◌≡◌, ◌+◌, ◌-◌, ◌≤◌, length, take}
use Rattle.chacha_base.specs.ChaCha.{keystream, stream_part}
use Rattle.chacha_base.proofs.cipher.ciphers.StreamCipher.try_write_keystream.Given as goal

abbrev pub invariant-pieces : goal.invariant-pieces
invariant-pieces g l =
    let cipher = g.Self.Keystream in
    let old = l.fn.self in
    record {
      within : l.done ≤ length l.fn.buf;
      fixed : cipher.fixed l.self ≡ cipher.fixed old;
      position : cipher.position l.self ≡ cipher.position old + l.done;
      bytes : take l.done l.buf
          ≡ stream_part (keystream cipher.modulus (cipher.block_at (cipher.fixed old))) (cipher.position old) l.done;
    }

abbrev pub decreases-pieces : goal.decreases-pieces
decreases-pieces g l = length l.initial.buf - l.done
