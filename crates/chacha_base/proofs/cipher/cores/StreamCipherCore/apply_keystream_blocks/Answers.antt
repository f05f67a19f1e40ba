use Rattle.std.proofs.Common.{◌≡◌, ◌+◌, ◌-◌, ◌∙◌, Some, length, refl, ap, arith}
use Rattle.chacha_base.proofs.ListLemmas.{part_long}
use Rattle.chacha_base.proofs.KeystreamLemmas.{blocks-more, xor_stream-block}
use Rattle.chacha_base.proofs.cipher.cores.StreamCipherCore.apply_keystream_blocks.Goals as goal

pub groups-preserved : goal.groups-preserved
groups-preserved g c =
    let kept = c.groups.invariant in
    let made = c.apply_group in
    record {
      within = omega arith;
      fixed = made.ensures.fixed ∙ kept.fixed;
      blocks = blocks-more _ _ (ap g.Self.Keystream.block_at kept.fixed) kept.blocks
          (omega arith, omega arith, omega arith) made.ensures.blocks made.ensures.counter;
    }

pub returns : goal.returns
returns g c =
    let kept = c.groups.invariant in
    let made = c.apply_group-2 in
    let a = c.groups.done in
    let k = length c.groups.blocks - a in
    let all : a + k ≡ length c.args.blocks.now = omega arith in
    let block = g.Self.Keystream.block_at (g.Self.Keystream.fixed c.args.self.now) in
    let first = g.Self.StreamCipherCore.counter c.args.self.now in
    let blocks = blocks-more k _ (ap g.Self.Keystream.block_at kept.fixed) kept.blocks
    (omega arith, all, omega arith) made.ensures.blocks made.ensures.counter in
    record {
      blocks = λ i less. blocks.done i less
          ∙ ap Some (xor_stream-block _ block (first + i) _ _ refl (omega (arith, c.told-blocks i less)));
      fixed = made.ensures.fixed ∙ kept.fixed;
      counter = rw (part_long a k c.groups.blocks (omega arith), kept.blocks.counter k, all) at made.ensures.counter;
    }
