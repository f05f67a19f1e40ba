use Rattle.std.proofs.Common.{◌<◌, ◌∙◌, arith}
use Rattle.chacha_base.proofs.RowLemmas.{quad-same, quad-repeated}
use Rattle.chacha_base.proofs.backends.rows.repeated.Goals as goal

pub returns : goal.returns
returns g c h less =
    let few : h < 4 = omega (arith, less, g.met.V.Vector.quads_at_most) in
    quad-same (g.V.Vector.lane c.from_words.result) _ h
    (λ j from within. c.from_words.ensures j (omega (arith, less, within)))
    ∙ quad-repeated c.args.w0 c.args.w1 c.args.w2 c.args.w3 h few
