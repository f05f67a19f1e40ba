use Rattle.std.proofs.Common.{◌≡◌, ◌*◌, ◌+◌, ◌-◌, ◌∙◌, ℕ, List, bit_xor, slice_index, length, take, drop, sym, ap, arith, take_all}
use lib.Lanes.{put_chunk}
use Rattle.std.specs.Simd.Lanes.{zip2}
use Rattle.std.proofs.lemmas.Simd.{put_chunk_whole, length-zip2, get_or-zip2}
use Rattle.chacha_base.proofs.KeystreamLemmas.{xor_stream-is}
use Rattle.chacha_base.specs.ChaCha.{xor_stream}
use Rattle.chacha_base.proofs.ListLemmas.{part_long}
use Rattle.chacha_base.proofs.PieceLemmas.{xor_stream-written}
use Rattle.chacha20.specs.Blocks.{byte_of}
use Rattle.chacha20.proofs.BlocksLemmas.{xor_stream-one, xored_at-between}
use Rattle.chacha20.proofs.chacha_core.engine.BetweenTarget.xor_blocks.Goals as goal

-- 64 bytes of an input XORed with a block, as vectors do it
block_xored : (input block output : List ℕ) → length input ≡ 64 → length block ≡ 64 → length output ≡ 64
    → put_chunk 0 output (zip2 bit_xor (take 64 input) (take 64 block)) ≡ xor_stream (slice_index block) 0 input
block_xored input block output in_long block_long out_long =
    let long = length-zip2 bit_xor input block (omega arith) in
    rw (take_all 64 input (omega arith), take_all 64 block (omega arith))
    (put_chunk_whole output (zip2 bit_xor input block) (omega (arith, long))
    ∙ xor_stream-is (slice_index block) 0 input (zip2 bit_xor input block) long (λ i less.
    let here : i ≡ 0 + i = omega arith in
    get_or-zip2 bit_xor input block i 0 0 0 less (omega arith)
    ∙ ap (λ k. bit_xor (slice_index input i) (slice_index block k)) here))

pub loop-i-preserved : goal.loop-i-preserved
loop-i-preserved c =
    let i = c.loop-i.i in
    let blocks = c.args.blocks.now in
    let at = 64 * c.args.first in
    let width = at + 64 * length blocks - at in
    let from = take width (drop at c.args.input.now) in
    let long = part_long at width c.args.input.now (omega arith) in
    let piece = part_long (64 * i) (64 * i + 64 - 64 * i) from (omega (arith, long)) in
    let next : 64 * (i + 1) ≡ 64 * i + 64 = omega arith in
    rw next (xor_stream-written (byte_of blocks) 0 (64 * i) 64 _ from _ _ (omega (arith, long)) (omega arith)
    (omega arith) c.loop-i.invariant
    (block_xored _ _ _ (omega (arith, piece)) (c.told-blocks i c.loop-i-test.true) (omega arith)
    ∙ xor_stream-one blocks (0 + 64 * i) i _ (omega arith) (omega (arith, piece))))

pub returns : goal.returns
returns c =
    let blocks = c.args.blocks.now in
    let at = 64 * c.args.first in
    let width = at + 64 * length blocks - at in
    let from = take width (drop at c.args.input.now) in
    let long = part_long at width c.args.input.now (omega arith) in
    xored_at-between c.args.first blocks c.args.input.now c.args.data.now (omega arith) (omega arith) (omega arith)
    (omega arith)
    (sym (take_all (64 * c.loop-i.i) c.loop-i.part (omega arith)) ∙ c.loop-i.invariant
    ∙ ap (xor_stream (byte_of blocks) 0) (take_all (64 * c.loop-i.i) from (omega (arith, long))))
