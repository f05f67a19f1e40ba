-- The RFC's examples. Facts on `mac_text`, the text that the MAC takes: another order, padding or length doesn't check,
-- and equal texts have equal parts.
use Rattle.std.proofs.Common.{◌≡◌, ℕ, ◌<◌, ◌^◌, List, [], ◌∷◌, ◌++◌, ◌∙◌, length, take, drop, replicate, codes, refl, sym, ap, arith}
use Rattle.std.proofs.Math.Seq.{take-append_seam, drop-append_seam}
use Rattle.std.proofs.lemmas.List.{length-append}
use Rattle.std.proofs.lemmas.Nat.{from_le_bytes-to_le_bytes_8}
use Rattle.std.specs.Int.{w64, to_le_bytes, from_le_bytes}
use Rattle.chacha20.specs.ChaCha.{ietf, chacha_stream, quarter, columns, diagonals, rounds, add_states}
use Rattle.poly1305.specs.Poly1305.{number, accumulator, padding, tag_from}
use Rattle.chacha20poly1305.specs.Aead.{mac_key, mac_text, sealed_message}

-- the key of RFC 8439, 2.6.2 and 2.8.2
abbrev pub key : List ℕ
key =
    0x80 ∷ 0x81 ∷ 0x82 ∷ 0x83 ∷ 0x84 ∷ 0x85 ∷ 0x86 ∷ 0x87 ∷ 0x88 ∷ 0x89 ∷ 0x8a ∷ 0x8b ∷ 0x8c ∷ 0x8d ∷ 0x8e ∷ 0x8f
    ∷ 0x90 ∷ 0x91 ∷ 0x92 ∷ 0x93 ∷ 0x94 ∷ 0x95 ∷ 0x96 ∷ 0x97 ∷ 0x98 ∷ 0x99 ∷ 0x9a ∷ 0x9b ∷ 0x9c ∷ 0x9d ∷ 0x9e ∷ 0x9f ∷ []

-- a MAC's key (2.6.2)
pub mac_key_vector : mac_key (chacha_stream 10 ietf key (replicate 5 0 ++ 1 ∷ 2 ∷ 3 ∷ 4 ∷ 5 ∷ 6 ∷ 7 ∷ [])) ≡
    0x8a ∷ 0xd5 ∷ 0xa0 ∷ 0x8b ∷ 0x90 ∷ 0x5f ∷ 0x81 ∷ 0xcc ∷ 0x81 ∷ 0x50 ∷ 0x40 ∷ 0x27 ∷ 0x4a ∷ 0xb2 ∷ 0x94 ∷ 0x71
    ∷ 0xa8 ∷ 0x33 ∷ 0xb6 ∷ 0x37 ∷ 0xe3 ∷ 0xfd ∷ 0x0d ∷ 0xa5 ∷ 0x08 ∷ 0xdb ∷ 0xb8 ∷ 0xe2 ∷ 0xfd ∷ 0xd1 ∷ 0xa6 ∷ 0x46 ∷ []
unfolding quarter columns diagonals rounds add_states mac_key
mac_key_vector = refl

-- the nonce, the associated data and the text of 2.8.2
abbrev pub nonce : List ℕ
nonce = 0x07 ∷ 0x00 ∷ 0x00 ∷ 0x00 ∷ 0x40 ∷ 0x41 ∷ 0x42 ∷ 0x43 ∷ 0x44 ∷ 0x45 ∷ 0x46 ∷ 0x47 ∷ []

abbrev pub aad : List ℕ
aad = 0x50 ∷ 0x51 ∷ 0x52 ∷ 0x53 ∷ 0xc0 ∷ 0xc1 ∷ 0xc2 ∷ 0xc3 ∷ 0xc4 ∷ 0xc5 ∷ 0xc6 ∷ 0xc7 ∷ []

abbrev pub text : List ℕ
text =
    codes "Ladies and Gentlemen of the class of '99: If I could offer you "
    ++ codes "only one tip for the future, sunscreen would be it."

-- the ciphertext and the tag (2.8.2)
pub message_vector : sealed_message (chacha_stream 10 ietf key nonce) aad text ≡
    0xd3 ∷ 0x1a ∷ 0x8d ∷ 0x34 ∷ 0x64 ∷ 0x8e ∷ 0x60 ∷ 0xdb ∷ 0x7b ∷ 0x86 ∷ 0xaf ∷ 0xbc ∷ 0x53 ∷ 0xef ∷ 0x7e ∷ 0xc2
    ∷ 0xa4 ∷ 0xad ∷ 0xed ∷ 0x51 ∷ 0x29 ∷ 0x6e ∷ 0x08 ∷ 0xfe ∷ 0xa9 ∷ 0xe2 ∷ 0xb5 ∷ 0xa7 ∷ 0x36 ∷ 0xee ∷ 0x62 ∷ 0xd6
    ∷ 0x3d ∷ 0xbe ∷ 0xa4 ∷ 0x5e ∷ 0x8c ∷ 0xa9 ∷ 0x67 ∷ 0x12 ∷ 0x82 ∷ 0xfa ∷ 0xfb ∷ 0x69 ∷ 0xda ∷ 0x92 ∷ 0x72 ∷ 0x8b
    ∷ 0x1a ∷ 0x71 ∷ 0xde ∷ 0x0a ∷ 0x9e ∷ 0x06 ∷ 0x0b ∷ 0x29 ∷ 0x05 ∷ 0xd6 ∷ 0xa5 ∷ 0xb6 ∷ 0x7e ∷ 0xcd ∷ 0x3b ∷ 0x36
    ∷ 0x92 ∷ 0xdd ∷ 0xbd ∷ 0x7f ∷ 0x2d ∷ 0x77 ∷ 0x8b ∷ 0x8c ∷ 0x98 ∷ 0x03 ∷ 0xae ∷ 0xe3 ∷ 0x28 ∷ 0x09 ∷ 0x1b ∷ 0x58
    ∷ 0xfa ∷ 0xb3 ∷ 0x24 ∷ 0xe4 ∷ 0xfa ∷ 0xd6 ∷ 0x75 ∷ 0x94 ∷ 0x55 ∷ 0x85 ∷ 0x80 ∷ 0x8b ∷ 0x48 ∷ 0x31 ∷ 0xd7 ∷ 0xbc
    ∷ 0x3f ∷ 0xf4 ∷ 0xde ∷ 0xf0 ∷ 0x8e ∷ 0x4b ∷ 0x7a ∷ 0x9d ∷ 0xe5 ∷ 0x76 ∷ 0xd2 ∷ 0x65 ∷ 0x86 ∷ 0xce ∷ 0xc6 ∷ 0x4b
    ∷ 0x61 ∷ 0x16 ∷ 0x1a ∷ 0xe1 ∷ 0x0b ∷ 0x59 ∷ 0x4f ∷ 0x09 ∷ 0xe2 ∷ 0x6a ∷ 0x7e ∷ 0x90 ∷ 0x2e ∷ 0xcb ∷ 0xd0 ∷ 0x60
    ∷ 0x06 ∷ 0x91 ∷ []
unfolding quarter columns diagonals rounds add_states mac_key number accumulator tag_from
message_vector = refl

pub short_parts : mac_text (1 ∷ 2 ∷ 3 ∷ []) (4 ∷ 5 ∷ []) ≡
    1 ∷ 2 ∷ 3 ∷ 0 ∷ 0 ∷ 0 ∷ 0 ∷ 0 ∷ 0 ∷ 0 ∷ 0 ∷ 0 ∷ 0 ∷ 0 ∷ 0 ∷ 0
    ∷ 4 ∷ 5 ∷ 0 ∷ 0 ∷ 0 ∷ 0 ∷ 0 ∷ 0 ∷ 0 ∷ 0 ∷ 0 ∷ 0 ∷ 0 ∷ 0 ∷ 0 ∷ 0
    ∷ 3 ∷ 0 ∷ 0 ∷ 0 ∷ 0 ∷ 0 ∷ 0 ∷ 0 ∷ 2 ∷ 0 ∷ 0 ∷ 0 ∷ 0 ∷ 0 ∷ 0 ∷ 0 ∷ []
short_parts = refl

-- a whole block of data, and no ciphertext
pub whole_block : mac_text (replicate 16 7) [] ≡ replicate 16 7 ++ 16 ∷ replicate 15 0
whole_block = refl

-- no data, and a ciphertext of 258 bytes
pub long_part : mac_text [] (replicate 258 7) ≡ replicate 258 7 ++ replicate 22 0 ++ 2 ∷ 1 ∷ replicate 6 0
long_part = refl

-- lists with ends of one length
same_ends : (xs ys xs' ys' : List ℕ) → length ys ≡ length ys' → xs ++ ys ≡ xs' ++ ys' → (xs ≡ xs') × (ys ≡ ys')
same_ends xs ys xs' ys' long same =
    let front : length xs ≡ length xs' =
    omega (arith, long, ap length same, length-append xs ys, length-append xs' ys') in (
      sym (take-append_seam xs ys) ∙ ap (take (length xs)) same ∙ ap (λ n. take n (xs' ++ ys')) front
          ∙ take-append_seam xs' ys',
      sym (drop-append_seam xs ys) ∙ ap (drop (length xs)) same ∙ ap (λ n. drop n (xs' ++ ys')) front
          ∙ drop-append_seam xs' ys',
    )

-- numbers with equal bytes
same_numbers : (m n : ℕ) → m < 2 ^ 64 → n < 2 ^ 64 → to_le_bytes w64 m ≡ to_le_bytes w64 n → m ≡ n
same_numbers m n fits fits' same =
    sym (from_le_bytes-to_le_bytes_8 m fits) ∙ ap (from_le_bytes w64) same ∙ from_le_bytes-to_le_bytes_8 n fits'

-- two pairs of parts below 2 ^ 64 bytes that have one text are equal
pub mac_text-injective : (aad ciphertext aad' ciphertext' : List ℕ)
    → length aad < 2 ^ 64 → length aad' < 2 ^ 64 → length ciphertext < 2 ^ 64 → length ciphertext' < 2 ^ 64
    → mac_text aad ciphertext ≡ mac_text aad' ciphertext' → (aad ≡ aad') × (ciphertext ≡ ciphertext')
mac_text-injective a t a' t' fits_a fits_a' fits_t fits_t' same =
    let fifth = same_ends _ (to_le_bytes w64 (length t)) _ (to_le_bytes w64 (length t')) refl same in
    let fourth = same_ends _ (to_le_bytes w64 (length a)) _ (to_le_bytes w64 (length a')) refl fifth.0 in
    let long_t = same_numbers (length t) (length t') fits_t fits_t' fifth.1 in
    let long_a = same_numbers (length a) (length a') fits_a fits_a' fourth.1 in
    let pad : ℕ → ℕ = λ n. length (padding n) in
    let third = same_ends _ (padding (length t)) _ (padding (length t')) (ap pad long_t) fourth.0 in
    let second = same_ends _ t _ t' long_t third.0 in
    let first = same_ends a (padding (length a)) a' (padding (length a')) (ap pad long_a) second.0 in
    (first.0, second.1)
