-- What calls on a cipher from a position on return, and what they leave: 0 exactly where the bytes
-- end at the limit or before it, and else 1, and then nothing is written.
use Rattle.std.specs.Prelude.{ℕ, List, ◌≡◌, ◌↔◌, ◌⊎◌, ◌≤◌, ◌+◌, length}
use Rattle.chacha20.specs.ChaCha.{stream_part, xor_stream}

-- a call that is accepted exactly where P holds, and then leaves the bytes `made`
pub record Answered (P : Type 0) (answer : ℕ) (made old new : List ℕ) : Type 0 where
  pub accepted : answer ≡ 0 ↔ P
  pub bytes : answer ≡ 0 → new ≡ made
  pub refused : (answer ≡ 0) ⊎ ((answer ≡ 1) × (new ≡ old))

-- bytes XORed in place with a stream
abbrev pub Xored : (limit : ℕ) (stream : ℕ → ℕ) (position answer : ℕ) (old new : List ℕ) → Type 0
Xored limit stream position answer old new =
    Answered (position + length old ≤ limit) answer (xor_stream stream position old) old new

-- an input XORed with a stream into an output, which has to be as long
abbrev pub XoredInto : (limit : ℕ) (stream : ℕ → ℕ) (position answer : ℕ)
    (input old new : List ℕ) → Type 0
XoredInto limit stream position answer input old new =
    Answered ((length input ≡ length old) × (position + length input ≤ limit)) answer
    (xor_stream stream position input) old new

-- the stream's own bytes, written over what was there
abbrev pub Written : (limit : ℕ) (stream : ℕ → ℕ) (position answer : ℕ) (old new : List ℕ) → Type 0
Written limit stream position answer old new =
    Answered (position + length old ≤ limit) answer
    (stream_part stream position (length old)) old new

-- a test of so many bytes
pub record Checked (limit position len answer : ℕ) : Type 0 where
  pub accepted : answer ≡ 0 ↔ (position + len ≤ limit)
  pub refused : (answer ≡ 0) ⊎ (answer ≡ 1)
