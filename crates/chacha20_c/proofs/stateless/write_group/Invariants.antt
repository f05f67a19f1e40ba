use Rattle.std.proofs.Common.{◌≡◌, ◌*◌, ◌-◌, ◌≤◌, take}
use Rattle.chacha20.specs.ChaCha.{keystream, stream_part}
use Rattle.chacha20_c.proofs.stateless.write_group.Given as goal

abbrev pub invariant-copies : goal.invariant-copies
invariant-copies g l =
    let core = g.C.Keystream in
    let old = l.fn.core in
    record {
      within : l.i ≤ 16;
      bytes : take (64 * l.i) l.group
          ≡ stream_part (keystream core.modulus (core.block_at (core.fixed old)))
          (64 * g.C.StreamCipherCore.counter old) (64 * l.i);
    }

abbrev pub decreases-copies : goal.decreases-copies
decreases-copies g l = 16 - l.i
