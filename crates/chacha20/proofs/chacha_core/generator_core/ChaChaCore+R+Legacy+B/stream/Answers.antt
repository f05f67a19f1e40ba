use Rattle.std.proofs.Common.{◌≡◌, [], ◌∷◌, ◌∙◌, slice_index, sym, arith, refl}
use Rattle.std.specs.Int.{w64, from_le_bytes}
use Rattle.chacha_base.specs.ChaCha.{bytes, legacy}
use Rattle.chacha_base.specs.State.{fixed_words}
use Rattle.chacha_base.proofs.BytesLemmas.{from_le_bytes-bytes}
use Rattle.chacha_base.proofs.ListLemmas.{by_words}
use Rattle.chacha20.specs.GeneratorCore.{stream_in}
use Rattle.chacha20.proofs.chacha_core.generator_core.ChaChaCore+R+Legacy+B.stream.Goals as goal

pub returns : goal.returns
returns g c =
    rw (← c.self.view_is)
    (c.joined.ensures
    ∙ sym (from_le_bytes-bytes _ _ (omega arith) (omega arith))
    ∙ by_words 16 (λ s. from_le_bytes w64 (bytes (slice_index s 14 ∷ slice_index s 15 ∷ []))
    ≡ stream_in (fixed_words legacy s)) c.self.inside.state c.self.told refl)
