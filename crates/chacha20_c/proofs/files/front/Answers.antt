use Rattle.std.proofs.Common.{◌≡◌, ◌∙◌, arith, length, min, take, ap}
use Rattle.std.proofs.lemmas.List.{take_min}
use Rattle.chacha20_c.proofs.files.front.Goals as goal

pub returns : goal.returns
returns c =
    let input = c.args.input.now in
    let size : c.min.result ≡ min 32 (length input) = omega (arith, c.min.ensures) in
    ap (λ n. take n input) size ∙ take_min 32 input
