-- Places and ranges of a file.
use Rattle.std.specs.Prelude.{◌≡◌, ◌<◌, ◌≤◌, ◌+◌, ◌-◌, ◌*◌, ◌/◌, ◌%◌, ℕ, Some, None, List, [], ◌++◌, length, take, drop, replicate, min, nat_eq}
use Rattle.std.specs.declared.option.Option.{Option}
use Rattle.std.specs.Option.{ForSome}
use Rattle.sealed_file.specs.declared.error.Damage.{Damage}
use Rattle.sealed_file.specs.declared.error.RangeError.{RangeError}
use Rattle.sealed_file.specs.declared.error.ReadError.{ReadError}
use Rattle.sealed_file.specs.declared.error.ReadError.TheVariants.{Read, Damaged}
use Rattle.sealed_file.specs.Sealed.{chunk, last_of, damage_at, header, IsFileDamage, IsSealed}

-- a file with the key and the salt that it is read with, and its bytes, where they are known
pub record File : Type 0 where
  pub key : List ℕ
  pub salt : List ℕ
  pub bytes : Option (List ℕ)

-- a file is a sealed one of this text
unfoldable pub HasText : File → List ℕ → Type 0
HasText f text = (salt all : List ℕ) × (f.bytes ≡ Some all) × IsSealed f.key salt text all

-- where chunk i begins
abbrev pub place : ℕ → ℕ
place i = 32 + 65552 * i

-- chunk i of a file is right, and this is its text; only chunk 0 may have an empty one
abbrev pub HasChunk : File → ℕ → List ℕ → Type 0
HasChunk f i text =
    (0 < i → 0 < length text)
    × ForSome f.bytes (λ all. take 65552 (drop (place i) all)
    ≡ chunk f.key f.salt i (nat_eq i (last_of (length all))) text)

-- text from byte `start` on: none, a part of a right chunk's text, or one range behind another
pub data HasRange (f : File) : ℕ → List ℕ → Type 0 where
  empty : (start : ℕ) → HasRange f start []
  part : (i from n : ℕ) (text : List ℕ) → HasChunk f i text → from + n ≤ length text
      → HasRange f (65536 * i + from) (take n (drop from text))
  joined : (start : ℕ) (xs ys : List ℕ) → HasRange f start xs → HasRange f (start + length xs) ys
      → HasRange f start (xs ++ ys)

-- a file ends with a right last chunk, and up to there its text has n bytes
unfoldable pub EndsAt : File → ℕ → Type 0
EndsAt f n =
    ForSome f.bytes (λ all.
    let i = last_of (length all) in
    (last : List ℕ) × HasChunk f i last × (n ≡ 65536 * i + length last))

-- no text has this chunk i, and the damage names it
unfoldable pub IsWrong : File → ℕ → Damage → Type 0
IsWrong f i damage =
    ForSome f.bytes (λ all. (damage ≡ damage_at i (nat_eq i (last_of (length all))))
    × ((text : List ℕ) → HasChunk f i text → ⊥))

-- what is wrong with a file that no reader takes: its header or its length, chunk 0, or else the last chunk
pub data IsRefused (key : List ℕ) (bytes : Option (List ℕ)) (damage : Damage) : Type 0 where
  whole : ForSome bytes (λ all. IsFileDamage all damage) → IsRefused key bytes damage
  first : (salt : List ℕ) → ForSome bytes (λ all. take 32 all ≡ header salt)
      → IsWrong (record { key = key; salt = salt; bytes = bytes }) 0 damage
      → IsRefused key bytes damage
  last : (salt text : List ℕ) (i : ℕ)
      → ForSome bytes (λ all. (take 32 all ≡ header salt) × (i ≡ last_of (length all)))
      → HasChunk (record { key = key; salt = salt; bytes = bytes }) 0 text
      → IsWrong (record { key = key; salt = salt; bytes = bytes }) i damage
      → IsRefused key bytes damage

-- how many bytes from byte `start` on stand before chunk i
abbrev pub before : ℕ → ℕ → ℕ
before start i = 65536 * i - start

-- chunk i has bytes of a window's range: those before them are text, and only they have changed
unfoldable pub StopsAt : File → ℕ → ℕ → List ℕ → List ℕ → Type 0
StopsAt f start i old new =
    let n = before start i in
    (start / 65536 ≤ i) × (n < length old) × HasRange f start (take n new)
    × (drop n new ≡ drop n old)

-- how many bytes chunk i has of a text of so many
abbrev pub text_size : ℕ → ℕ → ℕ
text_size text_len i = min 65536 (text_len - 65536 * i)

-- how many bytes of it the buffer of a reader begins with
abbrev pub held_size : Option ℕ → ℕ → ℕ
held_size None text_len = 0
held_size (Some i) text_len = text_size text_len i

-- bytes that are zero from byte n on
abbrev pub IsZeroFrom : ℕ → List ℕ → Type 0
IsZeroFrom n bytes = drop n bytes ≡ replicate (length bytes - n) 0

-- how many bytes one read gives, from byte `start` of a text of so many on: up to the end of the text, of the chunk or
-- of a window of this length
abbrev pub count : ℕ → ℕ → ℕ → ℕ
count text_len start window = min window (min (65536 - start % 65536) (text_len - start))

-- an error of `new` as one of a range
abbrev pub as_range_error : ReadError → RangeError
as_range_error (Read e) = RangeError.Read e
as_range_error (Damaged damage) = RangeError.Damaged damage
