-- A state as a counter and its other words, and the blocks that it gives one after another (this
-- crate).
use Rattle.std.specs.Prelude.{ℕ, ◌+◌, ◌*◌, ◌/◌, ◌%◌, ◌^◌, ◌<◌, ◌≡◌, Some, slice_get, slice_index}
use Rattle.std.specs.Prelude.{List, ◌++◌, map, take, drop}
use Rattle.std.specs.List.{range_with_len}
use Rattle.chacha_base.specs.ChaCha.{bytes, mix, Layout, ietf, legacy, modulus, counter_words}

-- how many words a counter has
abbrev pub counter_len : Layout → ℕ
counter_len ietf = 1
counter_len legacy = 2

-- the counter at the front of a row
abbrev pub row_counter : Layout → List ℕ → ℕ
row_counter ietf row = slice_index row 0
row_counter legacy row = slice_index row 0 + 2 ^ 32 * slice_index row 1

-- the row with another counter at its front, and the other words as they were
abbrev pub row_at : Layout → ℕ → List ℕ → List ℕ
row_at layout c row = counter_words layout c ++ drop (counter_len layout) row

-- the counter of a state of sixteen words
abbrev pub state_counter : Layout → List ℕ → ℕ
state_counter layout s = row_counter layout (drop 12 s)

-- the words of a state that are not its counter
abbrev pub fixed_words : Layout → List ℕ → List ℕ
fixed_words layout s = take 12 s ++ drop (12 + counter_len layout) s

-- the state with this counter and these other words
abbrev pub state_of : Layout → List ℕ → ℕ → List ℕ
state_of layout fixed c = take 12 fixed ++ counter_words layout c ++ drop 12 fixed

-- the 64 bytes of the block of that state, after n double rounds
abbrev pub state_block : ℕ → Layout → List ℕ → ℕ → List ℕ
state_block n layout fixed c = bytes (mix n (state_of layout fixed c))

-- the state with another counter
abbrev pub state_at : Layout → ℕ → List ℕ → List ℕ
state_at layout c s = state_of layout (fixed_words layout s) c

-- the counter i blocks after a state's own; it wraps
abbrev pub counter_after : Layout → List ℕ → ℕ → ℕ
counter_after layout s i = (state_counter layout s + i) % modulus layout

-- the state i blocks on
abbrev pub state_after : Layout → ℕ → List ℕ → List ℕ
state_after layout i s = state_at layout (counter_after layout s i) s

-- block i from a state on
abbrev pub next_block : ℕ → Layout → List ℕ → ℕ → List ℕ
next_block n layout s i = bytes (mix n (state_after layout i s))

-- the first k of these blocks are the next k blocks from a state on
abbrev pub AreNextBlocks : ℕ → Layout → List ℕ → ℕ → List (List ℕ) → Type 0
AreNextBlocks n layout s k blocks =
    (i : ℕ) → i < k → slice_get blocks i ≡ Some (next_block n layout s i)

-- word i from a state on: word i mod 16 of the block that is i div 16 blocks on
abbrev pub next_word : ℕ → Layout → List ℕ → ℕ → ℕ
next_word n layout s i = slice_index (mix n (state_after layout (i / 16) s)) (i % 16)

-- the 64 words of the next four blocks
unfoldable pub next_words : ℕ → Layout → List ℕ → List ℕ
next_words n layout s = map (next_word n layout s) (range_with_len 0 64)
