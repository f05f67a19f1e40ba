-- Bytes XORed with a list of blocks, or with the keystream of a state.
use Rattle.std.specs.Prelude.{ℕ, ◌*◌, ◌/◌, ◌%◌, List, [], length, slice_index, slice_index_or}
use borrow.Rule.Slice.PartMut.{mid_of, put_mid}
use Rattle.chacha_base.specs.ChaCha.{Layout, modulus, keystream, xor_stream}
use Rattle.chacha_base.specs.State.{state_counter, fixed_words, state_block}

-- byte p of a list of blocks of 64 bytes
abbrev pub byte_of : List (List ℕ) → ℕ → ℕ
byte_of blocks p = slice_index (slice_index_or blocks (p / 64) []) (p % 64)

-- bytes of which those from block `first` on are XORed with blocks
abbrev pub xored_at : ℕ → List (List ℕ) → List ℕ → List ℕ
xored_at first blocks xs =
    put_mid (64 * first) (64 * length blocks) xs
    (xor_stream (byte_of blocks) 0 (mid_of (64 * first) (64 * length blocks) xs))

-- byte p of the keystream of a state's fixed part, after n double rounds
abbrev pub state_stream : ℕ → Layout → List ℕ → ℕ → ℕ
state_stream n layout s = keystream (modulus layout) (state_block n layout (fixed_words layout s))

-- bytes XORed with that keystream from the state's counter on
abbrev pub applied : ℕ → Layout → List ℕ → List ℕ → List ℕ
applied n layout s = xor_stream (state_stream n layout s) (64 * state_counter layout s)
