use Rattle.std.proofs.Common.{◌≡◌, ℕ, ◌+◌, ◌*◌, ◌/◌, ◌%◌, ◌-◌, ◌≤◌, length, take}
use Rattle.chacha20.specs.ChaCha.{keystream, stream_part}
use Rattle.chacha20_c.proofs.stateless.write_blocks.Given as goal

abbrev pub invariant-parts : goal.invariant-parts
invariant-parts g l =
    let core = g.C.Keystream in
    let first = g.C.StreamCipherCore.counter l.fn.core in
    let start = core.fixed l.fn.core in
    record {
      within : l.done ≤ length l.fn.groups;
      whole : l.done % 1024 ≡ 0;
      fixed : core.fixed l.core ≡ start;
      counter : (i : ℕ) → (g.C.StreamCipherCore.counter l.core + i) % core.modulus
          ≡ (first + l.done / 64 + i) % core.modulus;
      bytes : take l.done l.groups
          ≡ stream_part (keystream core.modulus (core.block_at start)) (64 * first) l.done;
    }

abbrev pub decreases-parts : goal.decreases-parts
decreases-parts g l = length l.initial.groups - l.done
