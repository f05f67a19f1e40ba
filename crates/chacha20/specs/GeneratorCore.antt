-- The core of a generator: its seed and its stream, and how it stands for a generator with 64 words
-- kept in a buffer.
use Rattle.std.specs.Prelude.{ℕ, ◌+◌, ◌-◌, ◌*◌, ◌%◌, ◌≡◌, ◌≤◌, ◌<◌}
use Rattle.std.specs.Prelude.{List, ◌++◌, length, take, drop, slice_index}
use Rattle.std.specs.Int.{w64, to_le_bytes, from_le_bytes}
use Rattle.chacha_base.specs.ChaCha.{bytes, words, constants, legacy}
use Rattle.chacha_base.specs.State.{state_counter, fixed_words}
use Rattle.chacha20.specs.Generator.{GeneratorState, positions, word}

-- the seed that the fixed words of a core hold, which is its key
abbrev pub seed_in : List ℕ → List ℕ
seed_in fixed = bytes (take 8 (drop 4 fixed))

-- the stream that they hold, which is its nonce as a little-endian number
abbrev pub stream_in : List ℕ → ℕ
stream_in fixed = from_le_bytes w64 (bytes (drop 12 fixed))

-- they are the words of a start state, but for the counter
abbrev pub IsStart : List ℕ → Type 0
IsStart fixed =
    fixed ≡ constants ++ words (seed_in fixed) ++ words (to_le_bytes w64 (stream_in fixed))

-- the core is four blocks past the front of the buffer, of which so many words are used
abbrev pub generator_of : List ℕ → ℕ → GeneratorState
generator_of core used = record {
  seed = seed_in (fixed_words legacy core);
  stream = stream_in (fixed_words legacy core);
  word_pos = (16 * state_counter legacy core + (positions - 64) + used) % positions;
}

-- the words of the buffer that are not used are the next ones of the generator
pub record IsUnread (n : ℕ) (core buffer : List ℕ) (used : ℕ) : Type 0 where
  pub sixteen : length core ≡ 16
  pub start : IsStart (fixed_words legacy core)
  pub within : used ≤ 64
  pub next : (k : ℕ) → used + k < 64
      → slice_index buffer (used + k)
      ≡ word n (generator_of core used) ((generator_of core used).word_pos + k)
