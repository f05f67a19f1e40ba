use Rattle.std.proofs.Common.{◌≡◌, ◌*◌, ◌+◌, ◌-◌, ◌∙◌, length, ap₂, arith}
use borrow.Rule.Slice.PartMut.{put_mid}
use Rattle.chacha_base.proofs.KeystreamLemmas.{xor_stream-more, xor_stream-whole}
use Rattle.chacha_base.proofs.ListLemmas.{part_long}
use Rattle.chacha20.specs.Blocks.{byte_of}
use Rattle.chacha20.proofs.BlocksLemmas.{xor_stream-one}
use Rattle.chacha20.proofs.chacha_core.engine.InPlaceTarget.xor_blocks.Goals as goal

pub loop-i-preserved : goal.loop-i-preserved
loop-i-preserved c =
    let i = c.loop-i.i in
    let blocks = c.args.blocks.now in
    let at = 64 * c.args.first in
    let width = at + 64 * length blocks - at in
    let long = part_long at width c.args.data.now (omega arith) in
    xor_stream-more (byte_of blocks) 0 (64 * i) (64 * i + 64 - 64 * i) _ (omega arith) (omega (arith, long))
    c.loop-i.invariant (c.xor_bytes.ensures ∙ xor_stream-one blocks (0 + 64 * i) i _ (omega arith) (omega arith))

pub returns : goal.returns
returns c =
    let blocks = c.args.blocks.now in
    let at = 64 * c.args.first in
    let wide : at + 64 * length blocks - at ≡ 64 * length blocks = omega arith in
    let long = part_long at (64 * length blocks) c.args.data.now (omega arith) in
    ap₂ (λ k ys. put_mid at k c.args.data.now ys) wide
    (rw wide at c.loop-i.invariant ∙ xor_stream-whole (byte_of blocks) 0 (64 * c.loop-i.i) _ (omega (arith, long)))
