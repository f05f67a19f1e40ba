use Rattle.std.proofs.Common.{◌≡◌, ◌*◌, ◌^◌, refl, sym, ap, ◌∙◌, slice_index, w32}
use Rattle.std.specs.Simd.Lanes.{number_l, digits_l}
use Rattle.std.proofs.lemmas.Simd.{put_chunk_whole, below_from_Fits}
use Rattle.chacha_base.specs.ChaCha.{bytes}
use Rattle.chacha_base.specs.Lanes.{quad}
use Rattle.chacha_base.proofs.BytesLemmas.{digits-bytes}
use Rattle.chacha_base.proofs.ListLemmas.{by_words}
use Rattle.chacha_base.proofs.backends.buffer.write_row.Goals as goal

pub returns : goal.returns
returns c =
    let x = c.args.words in
    put_chunk_whole c.args.output.now (digits_l 256 16 (number_l (2 ^ 32) x)) (c.requires)
    ∙ ap (λ n. digits_l 256 (4 * n) (number_l (2 ^ 32) x)) (sym c.fits-words.0)
    ∙ digits-bytes x (below_from_Fits w32 x c.fits-words.1)
    ∙ ap bytes (by_words 4 (λ x. x ≡ quad (slice_index x) 0) x c.fits-words.0 refl)
