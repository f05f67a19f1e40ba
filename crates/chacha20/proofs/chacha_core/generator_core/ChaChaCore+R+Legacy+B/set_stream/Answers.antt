use Rattle.std.proofs.Common.{◌≡◌, ◌/◌, ◌%◌, ◌^◌, [], ◌∷◌, ◌++◌, take, slice_set, arith, refl}
use Rattle.std.proofs.lemmas.Nat.{and_mask}
use Rattle.chacha_base.proofs.BytesLemmas.{words-to_le_bytes}
use Rattle.chacha_base.proofs.ListLemmas.{by_words}
use Rattle.chacha20.proofs.chacha_core.generator_core.ChaChaCore+R+Legacy+B.set_stream.Goals as goal

pub returns : goal.returns
returns g c =
    let x = c.args.stream in
    rw (← c.self.view_is, and_mask x 32, words-to_le_bytes x (omega arith))
    (by_words 16 (λ s. slice_set (slice_set s 14 (x % 2 ^ 32)) 15 (x / 2 ^ 32)
    ≡ take 14 s ++ (x % 2 ^ 32 ∷ x / 2 ^ 32 ∷ [])) c.self.inside.state c.self.told refl)
