use Rattle.std.proofs.Common.{◌≡◌, ◌+◌, ◌∙◌, ap, arith, slice_index, bit_xor, sym}
use Rattle.chacha20.proofs.KeystreamLemmas.{xor_stream-is}
use Rattle.secretstream.proofs.state.combined.Goals as goal

pub returns : goal.returns
returns c =
    let old = c.args.inner.now in
    let other = slice_index c.args.mac.now in
    xor_stream-is other 0 old c.loop-i.bytes (c.loop-i.invariant.long ∙ sym c.told-inner) (λ i less.
    let here : i ≡ 0 + i = omega arith in
    c.loop-i.invariant.done i (omega (arith, less, c.told-inner, c.loop-i.auto.i-end))
    ∙ ap (λ k. bit_xor (slice_index old i) (other k)) here)
