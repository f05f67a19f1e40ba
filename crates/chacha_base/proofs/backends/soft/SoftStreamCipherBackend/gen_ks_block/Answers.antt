use Rattle.std.proofs.Common.{sym, ap, ◌∙◌}
use Rattle.chacha_base.specs.ChaCha.{bytes, mix}
use Rattle.chacha_base.proofs.StateLemmas.{state_after-zero}
use Rattle.chacha_base.proofs.backends.soft.SoftStreamCipherBackend.gen_ks_block.Goals as goal

pub returns-clause-block : goal.returns-clause-block
returns-clause-block g c =
    c.block_bytes.ensures.block
    ∙ ap (λ s. bytes (mix g.R.Rounds.COUNT s)) (sym (state_after-zero g.V.Variant.layout _ c.told-state c.fits-state))
