use Rattle.std.proofs.Common.{◌≡◌, ◌*◌, ◌/◌, ◌%◌, length, arith, ◌∙◌}
use Rattle.chacha20_c.proofs.GroupLemmas.{part-wrapped}
use Rattle.chacha20_c.proofs.stateless.write_groups.Goals as goal

pub returns-then-whole-gt0 : goal.returns-then-whole-gt0
returns-then-whole-gt0 g c =
    let blocks = g.K.KeyIvInit.blocks_of c.args.key.now c.args.nonce.now in
    let p = c.args.position in
    let begins : p % 64 ≡ 0 = c.requires.front c.if-whole-gt0.true in
    let place : p ≡ 64 * (p / 64) = omega (arith, begins) in
    (rw (c.core_at-core.ensures.keystream, c.core_at-core.ensures.counter) at c.write_blocks.ensures)
    ∙ part-wrapped g.K.Keystream.modulus blocks (p / 64) p (length c.args.groups.now) place
