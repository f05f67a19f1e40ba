use Rattle.std.proofs.Common.{◌∙◌, ◌∷◌, [], ◌++◌, ap₂, sym, arith}
use Rattle.std.proofs.lemmas.List.{take_more_set}
use Rattle.chacha_base.proofs.BytesLemmas.{words-more}
use Rattle.chacha_base.proofs.bytes.read_words.Goals as goal

pub loop-i-preserved : goal.loop-i-preserved
loop-i-preserved c =
    let i = c.loop-i.i in
    take_more_set c.loop-i.output i c.from_le_bytes.result (omega arith)
    ∙ ap₂ (λ t w. t ++ w ∷ []) c.loop-i.invariant c.from_le_bytes.ensures
    ∙ sym (words-more i c.args.input.now (omega arith))
