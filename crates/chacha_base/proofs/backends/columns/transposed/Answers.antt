use Rattle.std.proofs.Common.{ap₂, ◌∙◌}
use Rattle.chacha_base.specs.Lanes.{interleaved_low, interleaved_high}
use Rattle.chacha_base.proofs.backends.columns.transposed.Goals as goal

-- answered for speed
pub returns : goal.returns
returns g c =
    let even = c.interleaved-low_02.ensures in
    let odd = c.interleaved-low_13.ensures in
    let front = c.interleaved-first.ensures in
    let back = c.interleaved-third.ensures in
    record {
      first = λ h less. front.low h less ∙ ap₂ interleaved_low (even.low h less) (odd.low h less);
      second = λ h less. front.high h less ∙ ap₂ interleaved_high (even.low h less) (odd.low h less);
      third = λ h less. back.low h less ∙ ap₂ interleaved_low (even.high h less) (odd.high h less);
      fourth = λ h less. back.high h less ∙ ap₂ interleaved_high (even.high h less) (odd.high h less);
    }
