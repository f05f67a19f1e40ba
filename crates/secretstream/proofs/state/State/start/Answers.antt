use Rattle.std.proofs.Common.{◌∙◌, List, ℕ, drop, arith, ap, ap₂, length-drop, take_all}
use Rattle.chacha20.specs.XChaCha.{hchacha}
use Rattle.secretstream.proofs.state.State.start.Goals as goal

pub returns : goal.returns
returns c =
    let header = c.args.header.now in
    ap₂ (λ (k i : List ℕ). record { key = k; counter = 1; inner = i })
    (c.hchacha.ensures ∙ ap (hchacha 10 c.args.key.now) c.copy_from_slice.ensures.after)
    (c.copy_from_slice-2.ensures.after
    ∙ take_all 8 (drop 16 header) (omega (arith, length-drop 16 header, c.told-header)))
