use Rattle.std.proofs.Common.{◌≡◌, ◌+◌, slice_index, bit_xor, below_more, ap, ◌∙◌, arith, get_or-set_same, get_or-set_other}
use Rattle.chacha_base.proofs.KeystreamLemmas.{xor_stream-is}
use Rattle.chacha_base.proofs.bytes.xor_bytes.Goals as goal

-- answered for speed
pub loop-i-preserved : goal.loop-i-preserved
loop-i-preserved c =
    let i = c.loop-i.i in
    let now = c.loop-i.output in
    let byte = bit_xor (slice_index now i) (slice_index c.args.other.now i) in
    let before = c.loop-i.invariant in
    record {
      done = below_more _ i (λ k less. get_or-set_other now i k byte 0 (omega arith) ∙ before.done k less)
          (get_or-set_same now i byte 0 (omega arith)
          ∙ ap (λ old. bit_xor old (slice_index c.args.other.now i)) (before.rest i (omega arith)));
      rest = λ k above. get_or-set_other now i k byte 0 (omega arith) ∙ before.rest k (omega arith);
    }

pub returns : goal.returns
returns c =
    let old = c.args.output.now in
    let other = slice_index c.args.other.now in
    xor_stream-is other 0 old c.loop-i.output c.loop-i.auto.output (λ i less.
    let here : i ≡ 0 + i = omega arith in
    c.loop-i.invariant.done i (omega arith) ∙ ap (λ k. bit_xor (slice_index old i) (other k)) here)
