-- Facts on the format, so that another magic word, cipher, order of a number's bytes, data or place doesn't check.
-- libsodium 1.0.18 made the chunks, under a key of the bytes 0 to 31.
use Rattle.std.proofs.Common.{◌≡◌, ◌<◌, ◌≤◌, Bool, true, false, Some, None, List, ℕ, [], ◌∷◌, ◌++◌, length, take, drop, codes, refl, ap, arith}
use Rattle.std.specs.Fmt.{digits}
use Rattle.std.specs.List.{range_with_len}
use Rattle.chacha20.specs.ChaCha.{quarter, columns, diagonals, rounds, add_states}
use Rattle.chacha20poly1305.specs.Poly1305.{number, accumulator, tag_from}
use Rattle.chacha20poly1305.specs.Aead.{mac_key}
use Rattle.sealed_file.specs.Ranges.{place}
use Rattle.sealed_file.specs.DamageText.{damage_text}
use Rattle.sealed_file.specs.declared.error.Damage.TheVariants.{NotSealed, OtherVersion, CutHeader, WrongChunk, WrongEnd}
use Rattle.sealed_file.specs.Opened.{opened}
use Rattle.sealed_file.specs.Sealed.{xchacha20_poly1305, header, header_damage, chunk_nonce, chunk, chunks, last_number, piece, sealed}

abbrev some_key : List ℕ
some_key = range_with_len 0 32

abbrev some_salt : List ℕ
some_salt = codes "defghijklmnopqrstuv"

-- a file by the first byte of its chunk
abbrev file : ℕ → List ℕ
file first = codes "chacha20seal1defghijklmnopqrstuv" ++
    first ∷ 0x6b ∷ 0x18 ∷ 0xf3 ∷ 0xd4 ∷ 0xfc ∷ 0x2b ∷ 0xd2 ∷ 0x36 ∷ 0x6c ∷ 0xff ∷ 0xe3 ∷ 0xd6 ∷ 0x94 ∷ 0xed
    ∷ 0x92 ∷ 0x3b ∷ 0xe1 ∷ 0xe5 ∷ 0xab ∷ 0x65 ∷ 0x1c ∷ 0x77 ∷ 0x45 ∷ 0x6d ∷ 0x7c ∷ 0x96 ∷ 0x86 ∷ 0x9e ∷ 0x07
    ∷ []

pub whole_file : sealed some_key some_salt (codes "attack at dawn") ≡ file 0xc5
unfolding quarter columns diagonals rounds add_states mac_key number accumulator tag_from chunk
whole_file = refl

pub empty_file : sealed some_key some_salt [] ≡ codes "chacha20seal1defghijklmnopqrstuv" ++
    0xb1 ∷ 0x9e ∷ 0x0e ∷ 0x30 ∷ 0xa2 ∷ 0x41 ∷ 0x70 ∷ 0x56 ∷ 0x90 ∷ 0xb5 ∷ 0x3d ∷ 0x1d ∷ 0xda ∷ 0x48 ∷ 0xd7
    ∷ 0x8a ∷ []
unfolding quarter columns diagonals rounds add_states mac_key number accumulator tag_from chunk
empty_file = refl

-- a chunk that others follow, a last one, and chunk 1 of a file of two
pub chunk_bytes : chunk some_key some_salt 0x07060509 false (codes "text")
    ++ chunk some_key some_salt 0x0b0d0e0f true (codes "text") ++ chunk some_key some_salt 1 true (25 ∷ []) ≡
    0x1f ∷ 0xa2 ∷ 0x49 ∷ 0xb1 ∷ 0x77 ∷ 0xea ∷ 0x3b ∷ 0x98 ∷ 0x01 ∷ 0xd5 ∷ 0x74 ∷ 0xa9 ∷ 0x7e ∷ 0xa2 ∷ 0xa6
    ∷ 0x10 ∷ 0x63 ∷ 0x2d ∷ 0xe4 ∷ 0x55
    ∷ 0x81 ∷ 0xb9 ∷ 0xf8 ∷ 0x30 ∷ 0x6a ∷ 0xa9 ∷ 0x33 ∷ 0xca ∷ 0xae ∷ 0xdc ∷ 0xce ∷ 0xf8 ∷ 0xc8 ∷ 0xee ∷ 0x47
    ∷ 0x4d ∷ 0x9c ∷ 0xff ∷ 0xc2 ∷ 0xed
    ∷ 0x7d ∷ 0xa8 ∷ 0xfa ∷ 0xf2 ∷ 0x24 ∷ 0x4b ∷ 0xda ∷ 0x1f ∷ 0x52 ∷ 0x51 ∷ 0x91 ∷ 0xdd ∷ 0x6e ∷ 0x04 ∷ 0xf6
    ∷ 0x28 ∷ 0x30 ∷ []
unfolding quarter columns diagonals rounds add_states mac_key number accumulator tag_from chunk
chunk_bytes = refl

-- each chunk has its own nonce
pub chunk_by_nonce : (key salt text : List ℕ) (i : ℕ) (last : Bool)
    → chunk key salt i last text ≡ xchacha20_poly1305 key (chunk_nonce salt i last) text
unfolding chunk
chunk_by_nonce key salt text i last = refl

pub nonce : chunk_nonce (codes "defghijklmnopqrstuv") 0x07060509 true
    ≡ codes "defghijklmnopqrstuv" ++ 0x07 ∷ 0x06 ∷ 0x05 ∷ 0x09 ∷ 1 ∷ []
nonce = refl

-- files of one, two and three chunks
with_chunks : (key salt text : List ℕ) (n : ℕ) → last_number text ≡ n → sealed key salt text
    ≡ header salt ++ chunks key salt text n ++ chunk key salt n true (piece text n)
with_chunks key salt text n is =
    ap (λ n. header salt ++ chunks key salt text n ++ chunk key salt n true (piece text n)) is

pub one_chunk : (key salt text : List ℕ) → length text ≤ 65536
    → sealed key salt text ≡ header salt ++ [] ++ chunk key salt 0 true (take 65536 text)
one_chunk key salt text most = with_chunks key salt text 0 (omega (arith, most))

pub two_chunks : (key salt text : List ℕ) → 65536 < length text → length text ≤ 131072
    → sealed key salt text ≡ header salt ++ chunk key salt 0 false (take 65536 text)
    ++ chunk key salt 1 true (take 65536 (drop 65536 text))
two_chunks key salt text more most = with_chunks key salt text 1 (omega (arith, more, most))

pub three_chunks : (key salt text : List ℕ) → 131072 < length text → length text ≤ 196608
    → sealed key salt text ≡ header salt ++ (chunk key salt 0 false (take 65536 text)
    ++ chunk key salt 1 false (take 65536 (drop 65536 text)))
    ++ chunk key salt 2 true (take 65536 (drop 131072 text))
three_chunks key salt text more most = with_chunks key salt text 2 (omega (arith, more, most))

-- what `decrypt` finds: a whole file, one with a wrong tag, and wrong headers
pub right_file : opened some_key (file 0xc5) ≡ (codes "attack at dawn", None)
unfolding quarter columns diagonals rounds add_states mac_key number accumulator tag_from chunk
right_file = refl

pub wrong_file : opened some_key (file 0xc4) ≡ ([], Some (WrongEnd 0))
unfolding quarter columns diagonals rounds add_states mac_key number accumulator tag_from chunk
wrong_file = refl

pub wrong_headers : header_damage (codes "chacha20sea") ∷ header_damage (codes "chacha20seam1defghijklmnopqrstuv")
    ∷ header_damage (codes "chacha20seal2defghijklmnopqrstu") ∷ header_damage (codes "chacha20seal2defghijklmnopqrstuv")
    ∷ header_damage (codes "chacha20seal1defghijklmnopqrstuv") ∷ []
    ≡ Some NotSealed ∷ Some NotSealed ∷ Some CutHeader ∷ Some OtherVersion ∷ None ∷ []
wrong_headers = refl

-- the bytes that damage names
pub damage_bytes : damage_text (WrongChunk 1) ≡ codes "bytes 65536 to 131071 of the text are damaged"
unfolding digits
damage_bytes = refl

-- each chunk has 16 bytes more than its text, and the header 32
pub second_place : place 1 ≡ 65584
second_place = refl

pub second_piece : (text : List ℕ) → piece text 1 ≡ take 65536 (drop 65536 text)
second_piece text = refl
