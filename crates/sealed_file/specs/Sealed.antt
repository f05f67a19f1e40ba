-- The format of a sealed file: STREAM of 64 KiB chunks. A key, a text and a file are lists of bytes, and a salt is 19
-- random bytes.
use Rattle.std.specs.Prelude.{◌≡◌, ◌≢◌, ◌⊎◌, ℕ, zero, suc, ◌+◌, ◌<◌, ◌≤◌, ◌-◌, ◌*◌, ◌/◌, ◌^◌, nat_lt, Bool, true, false, not, if◌then◌else◌}
use Rattle.std.specs.Prelude.{List, [], ◌∷◌, ◌++◌, take, drop, length, codes, bytes_eq, Some, None}
use Rattle.std.specs.declared.option.Option.{Option}
use Rattle.std.specs.Io.KnownBytes.{prepend_known}
use Rattle.std.specs.Int.{w32, to_be_bytes, div_ceil}
use Rattle.chacha20.specs.XChaCha.{xchacha_stream}
use Rattle.chacha20poly1305.specs.Aead.{sealed_message}
use Rattle.sealed_file.specs.declared.error.Damage.{Damage}
use Rattle.sealed_file.specs.declared.error.Damage.TheVariants.{NotSealed, OtherVersion, CutHeader, TooLong, WrongChunk, WrongEnd}

-- XChaCha20-Poly1305 (draft-irtf-cfrg-xchacha, section 2) without associated data: the ciphertext, and then its tag
abbrev pub xchacha20_poly1305 : List ℕ → List ℕ → List ℕ → List ℕ
xchacha20_poly1305 key nonce text = sealed_message (xchacha_stream 10 key nonce) [] text

-- the header of 32 bytes: a magic word, whose last byte is the version, and the salt
abbrev pub header : List ℕ → List ℕ
header salt = codes "chacha20seal1" ++ salt

-- a file that begins with the header of this salt
abbrev pub HasSalt : List ℕ → List ℕ → Type 0
HasSalt file salt = (rest : List ℕ) × (length salt ≡ 19) × (file ≡ header salt ++ rest)

-- what is wrong with the header of a file: the magic word, the length or the version
abbrev pub header_damage : List ℕ → Option Damage
header_damage file =
    if not (bytes_eq (codes "chacha20seal") (take 12 file)) then Some NotSealed
    else (if nat_lt (length file) 32 then Some CutHeader
    else (if not (bytes_eq (codes "chacha20seal1") (take 13 file)) then Some OtherVersion
    else None))

-- what is wrong with a file before any chunk is opened
abbrev pub IsFileDamage : List ℕ → Damage → Type 0
IsFileDamage file damage =
    (header_damage file ≡ Some damage)
    ⊎ ((damage ≡ TooLong) × (32 + 65552 * 2 ^ 32 < length file))

-- the nonce of a chunk: the salt, the chunk's number in 4 bytes, and 1 for the last chunk, 0 for others
abbrev pub chunk_nonce : List ℕ → ℕ → Bool → List ℕ
chunk_nonce salt number last =
    salt ++ (to_be_bytes w32 number ++ (if last then 1 else 0) ∷ [])

-- a chunk of a file
unfoldable pub chunk : List ℕ → List ℕ → ℕ → Bool → List ℕ → List ℕ
chunk key salt number last text = xchacha20_poly1305 key (chunk_nonce salt number last) text

-- the text of chunk i: 64 KiB, or what is left
abbrev pub piece : List ℕ → ℕ → List ℕ
piece text i = take 65536 (drop (65536 * i) text)

-- the first n chunks of a text, none of them the last
abbrev pub chunks : List ℕ → List ℕ → List ℕ → ℕ → List ℕ
chunks key salt text zero = []
chunks key salt text (suc i) = chunks key salt text i ++ chunk key salt i false (piece text i)

-- the number of the last chunk; an empty text has one chunk
abbrev pub last_number : List ℕ → ℕ
last_number text = (length text - 1) / 65536

-- the whole file
abbrev pub sealed : List ℕ → List ℕ → List ℕ → List ℕ
sealed key salt text =
    let n = last_number text in
    header salt ++ chunks key salt text n ++ chunk key salt n true (piece text n)

-- the sealed file of a text, which has at most 2^32 chunks
abbrev pub IsSealed : List ℕ → List ℕ → List ℕ → List ℕ → Type 0
IsSealed key salt text file =
    (length salt ≡ 19) × (length text ≤ 2 ^ 48) × (file ≡ sealed key salt text)

-- bytes that are chunk i of no text; only chunk 0 may have an empty one
abbrev pub IsNoChunk : List ℕ → List ℕ → ℕ → Bool → List ℕ → Type 0
IsNoChunk key salt i last bytes =
    (text : List ℕ) → (0 < i → 0 < length text) → bytes ≢ chunk key salt i last text

-- the number of the last chunk of a file of so many bytes: 32 of the header, and at least one more
abbrev pub last_of : ℕ → ℕ
last_of bytes = (bytes - 33) / 65552

-- how many bytes of text such a file has, by its length alone
abbrev pub text_of : ℕ → ℕ
text_of bytes = bytes - 32 - 16 * div_ceil (bytes - 32) 65552

-- what is wrong with chunk i
abbrev pub damage_at : ℕ → Bool → Damage
damage_at i last = if last then WrongEnd i else WrongChunk i

-- what a reader has left, with a byte that was read ahead
abbrev pub left : Option ℕ → Option (List ℕ) → Option (List ℕ)
left None known = known
left (Some x) known = prepend_known (x ∷ []) known
