use Rattle.std.proofs.Common.{◌≡◌, sym, ap, ◌∙◌, arith, Some}
use Rattle.chacha_base.specs.ChaCha.{bytes, mix}
use Rattle.chacha_base.proofs.ListLemmas.{slice_get-set_same}
use Rattle.chacha_base.proofs.StateLemmas.{state_after-zero}
use Rattle.chacha_base.proofs.backends.soft.SoftStreamCipherBackend.gen_par_ks_blocks.Goals as goal

pub returns-clause-blocks : goal.returns-clause-blocks
returns-clause-blocks g c i h =
    let first : i ≡ 0 = omega arith in
    rw first
    (slice_get-set_same c.args.blocks.now 0 _ (omega arith)
    ∙ ap Some (c.block_bytes.ensures.block
    ∙ ap (λ s. bytes (mix g.R.Rounds.COUNT s)) (sym (state_after-zero g.V.Variant.layout _ c.told-state c.fits-state))))
