-- Blocks of a keystream are parts of it.
use Rattle.std.proofs.Common.{◌≡◌, ℕ, ◌+◌, ◌*◌, ◌/◌, ◌%◌, List, length, slice_index, arith, refl, ap, ◌∙◌}
use Rattle.std.proofs.Math.Nat.{mod-add-mod}
use Rattle.chacha20.specs.ChaCha.{keystream, stream_part}
use Rattle.chacha20.proofs.KeystreamLemmas.{keystream_byte, stream_part-same, streamed_is}

module _ (modulus : ℕ) (block : ℕ → List ℕ) where
  -- two counters that are the same modulo their number make the same bytes
  pub part-same : (a b p n : ℕ) → p ≡ 64 * b → ((i : ℕ) → (a + i) % modulus ≡ (b + i) % modulus)
      → stream_part (keystream modulus block) (64 * a) n ≡ stream_part (keystream modulus block) p n
  part-same a b p n place same =
      stream_part-same (keystream modulus block) (keystream modulus block) (64 * a) p n (λ j less.
      let near : (64 * a + j) / 64 ≡ a + j / 64 = omega arith in
      let far : (p + j) / 64 ≡ b + j / 64 = omega arith in
      let near_place : (64 * a + j) % 64 ≡ j % 64 = omega arith in
      let far_place : (p + j) % 64 ≡ j % 64 = omega arith in
      rw (near, far, near_place, far_place, same (j / 64)) refl)

  -- a counter that has wrapped
  pub part-wrapped : (c p n : ℕ) → p ≡ 64 * c
      → stream_part (keystream modulus block) (64 * (c % modulus)) n ≡ stream_part (keystream modulus block) p n
  part-wrapped c p n place = part-same (c % modulus) c p n place (λ i. mod-add-mod c modulus i)

  -- the block of a counter
  pub block-part : (c : ℕ) (bytes : List ℕ) → length bytes ≡ 64 → bytes ≡ block (c % modulus)
      → bytes ≡ stream_part (keystream modulus block) (64 * c) 64
  block-part c bytes long is =
      streamed_is (keystream modulus block) (64 * c) 64 bytes long (λ i less.
      ap (λ l. slice_index l i) is ∙ keystream_byte modulus block c i less)
