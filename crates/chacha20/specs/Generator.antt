-- Generators of words: a seed, a stream, and a position that counts words and wraps.
use Rattle.std.specs.Prelude.{ℕ, zero, suc, ◌+◌, ◌*◌, ◌/◌, ◌%◌, ◌^◌, ◌==◌, Bool}
use Rattle.std.specs.Prelude.{List, [], ◌∷◌, ◌++◌, take, drop, slice_index}
use Rattle.std.specs.Ordering.{on, eq_of_both}
use Rattle.std.specs.Cmp.Lexicographic.{pointwise}
use Rattle.std.specs.Int.{w64, to_le_bytes, from_le_bytes}
use Rattle.rand_core.specs.Steps.{Steps}
use Rattle.chacha_base.specs.ChaCha.{bytes, start, stream_part, legacy, mix}

pub record GeneratorState : Type 0 where
  pub seed : List ℕ
  pub stream : ℕ
  pub word_pos : ℕ

-- how many positions there are: sixteen words for each counter of 64 bits
abbrev pub positions : ℕ
positions = 2 ^ 68

-- the generator of a seed, at the start of stream 0
abbrev pub of_seed : List ℕ → GeneratorState
of_seed seed = record { seed = seed; stream = 0; word_pos = 0 }

-- the generator at a position
abbrev pub at_word_pos : GeneratorState → ℕ → GeneratorState
at_word_pos g w = record g { word_pos = w % positions }

-- the word at a position, after n double rounds: that of the block whose key is the seed and whose
-- nonce is the stream's 8 little-endian bytes
abbrev pub word : ℕ → GeneratorState → ℕ → ℕ
word n g w =
    let nonce = to_le_bytes w64 g.stream in
    slice_index (mix n (start legacy g.seed nonce (w % positions / 16))) (w % 16)

-- reads: the answer, and the generator after it
abbrev pub next_u32 : ℕ → GeneratorState → ℕ × GeneratorState
next_u32 n g = (word n g g.word_pos, at_word_pos g (g.word_pos + 1))

abbrev pub next_u64 : ℕ → GeneratorState → ℕ × GeneratorState
next_u64 n g = (
  word n g g.word_pos + 2 ^ 32 * word n g (g.word_pos + 1),
  at_word_pos g (g.word_pos + 2),
)

-- a read of so many bytes takes whole words, and drops what is left of the last
abbrev pub fill : ℕ → GeneratorState → ℕ → List ℕ × GeneratorState
fill n g len =
    let k = (len + 3) / 4 in
    (take len (bytes (stream_part (word n g) g.word_pos k)), at_word_pos g (g.word_pos + k))

-- the three reads, by the names that the crate rand_core gives them
abbrev pub reads : ℕ → Steps GeneratorState
reads n =
    record { next_u32 = next_u32 n; next_u64 = next_u64 n; fill_bytes = λ len g. fill n g len }

-- k reads of one kind, one after another: the answers in order, and the generator after them
abbrev pub repeated : {A : Type 0} → (GeneratorState → A × GeneratorState) → ℕ
    → GeneratorState → List A × GeneratorState
repeated read zero g = ([], g)
repeated read (suc k) g =
    let a = read g in
    let rest = repeated read k a.1 in
    (a.0 ∷ rest.0, rest.1)

-- the same seed, stream and position
abbrev pub same_generator : GeneratorState → GeneratorState → Bool
same_generator =
    eq_of_both (on (λ g. g.word_pos) ◌==◌)
    (eq_of_both (on (λ g. g.stream) ◌==◌) (on (λ g. g.seed) (pointwise ◌==◌)))

-- the state in 49 bytes: seed, stream and position, each number little-endian
abbrev pub state_bytes : GeneratorState → List ℕ
state_bytes g =
    let low = to_le_bytes w64 (g.word_pos % 2 ^ 64) in
    g.seed ++ (to_le_bytes w64 g.stream ++ (low ++ (g.word_pos / 2 ^ 64 ∷ [])))

-- the generator of 49 bytes; the upper half of the last byte is ignored
abbrev pub of_state_bytes : List ℕ → GeneratorState
of_state_bytes bs = record {
  seed = take 32 bs;
  stream = from_le_bytes w64 (take 8 (drop 32 bs));
  word_pos = (from_le_bytes w64 (take 8 (drop 40 bs)) + 2 ^ 64 * slice_index bs 48) % positions;
}
