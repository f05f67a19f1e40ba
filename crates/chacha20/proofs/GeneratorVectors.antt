-- Worked answers of generators with ten double rounds, so that a wrong place of stream or counter in a definition, or a
-- position that doesn't wrap, does not check.
use Rattle.std.proofs.Common.{◌≡◌, ℕ, ◌-◌, ◌*◌, ◌^◌, List, [], ◌∷◌, ◌++◌, replicate, refl}
use Rattle.chacha_base.specs.ChaCha.{stream_part, quarter, columns, diagonals, rounds, add_states}
use Rattle.chacha20.specs.Generator.{GeneratorState, of_seed, next_u32, next_u64, fill, word, at_word_pos, state_bytes, of_state_bytes}

-- the seed 01 to 20
abbrev pub seed : List ℕ
seed =
    0x01 ∷ 0x02 ∷ 0x03 ∷ 0x04 ∷ 0x05 ∷ 0x06 ∷ 0x07 ∷ 0x08 ∷ 0x09 ∷ 0x0a ∷ 0x0b ∷ 0x0c ∷ 0x0d ∷ 0x0e ∷ 0x0f ∷ 0x10
    ∷ 0x11 ∷ 0x12 ∷ 0x13 ∷ 0x14 ∷ 0x15 ∷ 0x16 ∷ 0x17 ∷ 0x18 ∷ 0x19 ∷ 0x1a ∷ 0x1b ∷ 0x1c ∷ 0x1d ∷ 0x1e ∷ 0x1f ∷ 0x20 ∷ []

-- its generator so many words on, and that of a seed of zeros
abbrev pub moved : ℕ → GeneratorState
moved = at_word_pos (of_seed seed)

abbrev pub of_zeros : GeneratorState
of_zeros = of_seed (replicate 32 0)

-- 13 bytes take four words
pub first_fill : fill 10 (of_seed seed) 13
    ≡ (0xb1 ∷ 0x69 ∷ 0x7e ∷ 0x9f ∷ 0xc6 ∷ 0x46 ∷ 0x1e ∷ 0x19 ∷ 0x83 ∷ 0xd1 ∷ 0x31 ∷ 0xcf ∷ 0x69 ∷ [], moved 4)
unfolding quarter columns diagonals rounds add_states
first_fill = refl

pub second_fill : fill 10 (moved 4) 13
    ≡ (0xa7 ∷ 0xa3 ∷ 0xfc ∷ 0x13 ∷ 0x4f ∷ 0x14 ∷ 0x98 ∷ 0x80 ∷ 0xe8 ∷ 0xbb ∷ 0x2b ∷ 0x5d ∷ 0x23 ∷ [], moved 8)
unfolding quarter columns diagonals rounds add_states
second_fill = refl

-- a stream and a counter whose bytes differ
pub other_stream : stream_part (word 10 (record {
  seed = 0x00 ∷ 0x01 ∷ 0x02 ∷ 0x03 ∷ 0x04 ∷ 0x05 ∷ 0x06 ∷ 0x07 ∷ 0x08 ∷ 0x09 ∷ 0x0a ∷ 0x0b ∷ 0x0c ∷ 0x0d ∷ 0x0e ∷ 0x0f
      ∷ 0x10 ∷ 0x11 ∷ 0x12 ∷ 0x13 ∷ 0x14 ∷ 0x15 ∷ 0x16 ∷ 0x17 ∷ 0x18 ∷ 0x19 ∷ 0x1a ∷ 0x1b ∷ 0x1c ∷ 0x1d ∷ 0x1e ∷ 0x1f
      ∷ [];
  stream = 0x4a000000;
  word_pos = 0;
})) (16 * 0x0900000000000001) 4 ≡ 0xe4e7f110 ∷ 0x15593bd1 ∷ 0x1fdd0f50 ∷ 0xc47120a3 ∷ []
unfolding quarter columns diagonals rounds add_states
other_stream = refl

pub fifth : next_u32 10 (at_word_pos of_zeros 4) ≡ (0xb819d2bd, record of_zeros { word_pos = 5 })
unfolding quarter columns diagonals rounds add_states
fifth = refl

pub high_stream : (next_u32 10 (record of_zeros { stream = 0x0200000000000000 })).0 ≡ 0x374dc6c2
unfolding quarter columns diagonals rounds add_states
high_stream = refl

-- the last word before the position wraps, and the first after it
pub wraps : next_u64 10 (at_word_pos of_zeros (2 ^ 68 - 1)) ≡ (0xade0b8768976b107, record of_zeros { word_pos = 1 })
unfolding quarter columns diagonals rounds add_states
wraps = refl

-- the bytes of a state whose numbers have different bytes, and the state of such bytes, whose last one says more than
-- it may
pub stored : state_bytes (record { seed = seed; stream = 0xf0f1f2f3f4f5f6f7; word_pos = 0x9a8a7a6a5a4a3a2a1 })
    ≡ seed ++ (0xf7 ∷ 0xf6 ∷ 0xf5 ∷ 0xf4 ∷ 0xf3 ∷ 0xf2 ∷ 0xf1 ∷ 0xf0
    ∷ 0xa1 ∷ 0xa2 ∷ 0xa3 ∷ 0xa4 ∷ 0xa5 ∷ 0xa6 ∷ 0xa7 ∷ 0xa8 ∷ 0x09 ∷ [])
stored = refl

pub restored : of_state_bytes (seed ++ (0xf7 ∷ 0xf6 ∷ 0xf5 ∷ 0xf4 ∷ 0xf3 ∷ 0xf2 ∷ 0xf1 ∷ 0xf0
    ∷ 0xa1 ∷ 0xa2 ∷ 0xa3 ∷ 0xa4 ∷ 0xa5 ∷ 0xa6 ∷ 0xa7 ∷ 0xa8 ∷ 0xf9 ∷ []))
    ≡ record { seed = seed; stream = 0xf0f1f2f3f4f5f6f7; word_pos = 0x9a8a7a6a5a4a3a2a1 }
restored = refl
