-- Facts on places, lengths and counts, and the file of a text of one chunk, made by libsodium 1.0.18.
use Rattle.std.proofs.Common.{◌≡◌, [], ◌∷◌, ◌++◌, Some, codes, arith, refl}
use Rattle.std.specs.List.{range_with_len}
use Rattle.chacha20.specs.ChaCha.{quarter, columns, diagonals, rounds, add_states}
use Rattle.chacha20poly1305.specs.Poly1305.{number, accumulator, tag_from}
use Rattle.chacha20poly1305.specs.Aead.{mac_key}
use Rattle.sealed_file.specs.Ranges.{File, EndsAt, IsZeroFrom, before, count, text_size}
use Rattle.sealed_file.specs.Sealed.{chunk, last_of, text_of}
use Rattle.sealed_file.proofs.ListLemmas.{for_some}

-- files of 0, 65536, 65537 and 131073 bytes of text
pub last_numbers : (last_of 48 ≡ 0) × (last_of 65584 ≡ 0) × (last_of 65601 ≡ 1) × (last_of 131153 ≡ 2)
last_numbers = (refl, refl, refl, refl)

pub text_lengths : (text_of 48 ≡ 0) × (text_of 65584 ≡ 65536) × (text_of 65601 ≡ 65537) × (text_of 131153 ≡ 131073)
text_lengths = (refl, refl, refl, refl)

-- to the end of a chunk, to that of a text, at it and past it, and a whole window
pub counts : (count 200000 65500 100 ≡ 36) × (count 200000 199990 100 ≡ 10) × (count 200000 200000 100 ≡ 0)
    × (count 200000 300000 100 ≡ 0) × (count 200000 65536 100 ≡ 100)
counts = (refl, refl, refl, refl, refl)

pub text_sizes : (text_size 200000 2 ≡ 65536) × (text_size 200000 3 ≡ 3392) × (text_size 200000 4 ≡ 0)
text_sizes = (refl, refl, refl)

pub bytes_before : (before 70000 2 ≡ 61072) × (before 70000 1 ≡ 0)
bytes_before = (refl, refl)

pub zeros : IsZeroFrom 2 (1 ∷ 2 ∷ 0 ∷ 0 ∷ [])
zeros = refl

abbrev made : File
made = record {
  key = range_with_len 0 32;
  salt = codes "defghijklmnopqrstuv";
  bytes = Some (codes "chacha20seal1defghijklmnopqrstuv" ++
      0xc5 ∷ 0x6b ∷ 0x18 ∷ 0xf3 ∷ 0xd4 ∷ 0xfc ∷ 0x2b ∷ 0xd2 ∷ 0x36 ∷ 0x6c ∷ 0xff ∷ 0xe3 ∷ 0xd6 ∷ 0x94 ∷ 0xed
      ∷ 0x92 ∷ 0x3b ∷ 0xe1 ∷ 0xe5 ∷ 0xab ∷ 0x65 ∷ 0x1c ∷ 0x77 ∷ 0x45 ∷ 0x6d ∷ 0x7c ∷ 0x96 ∷ 0x86 ∷ 0x9e ∷ 0x07
      ∷ []);
}

pub ends : EndsAt made 14
unfolding quarter columns diagonals rounds add_states mac_key number accumulator tag_from chunk EndsAt
ends =
    for_some made.bytes _ (codes "attack at dawn", ((λ _. omega arith), for_some made.bytes _ refl), refl)
