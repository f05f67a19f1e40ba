-- ChaCha (RFC 8439, sections 2.1 to 2.4), for any number of double rounds and for two layouts of the
-- counter. The RFC's ChaCha20 has ten double rounds and the layout `ietf`.
--
-- Words, bytes, counters and positions are natural numbers, and a state is a list of sixteen words.
-- A key has 32 bytes, and a nonce 12 (`ietf`) or 8 (`legacy`): the types of calls say so. `*`, `/` and
-- `%` associate to the left. A proof unfolds an `unfoldable` definition only on request. The RFC's
-- examples are facts of RfcVectors.
use Rattle.std.specs.Prelude.{ℕ, zero, suc, ◌+◌, ◌-◌, ◌*◌, ◌/◌, ◌%◌, ◌^◌, bit_xor}
use Rattle.std.specs.Prelude.{List, [], ◌∷◌, ◌++◌, map, slice_index, slice_set}
use Rattle.std.specs.List.{range_with_len}

-- Words of 32 bits, as numbers from 0 to 2 ^ 32 - 1 (2.1).

-- the sum modulo 2 ^ 32
abbrev pub add : ℕ → ℕ → ℕ
add x y = (x + y) % 2 ^ 32

-- the rotation of a word to the left, by k from 0 to 32: the top k bits move to the bottom
abbrev pub rotl : ℕ → ℕ → ℕ
rotl x k = x * 2 ^ k % 2 ^ 32 + x / 2 ^ (32 - k)

-- The quarter round (2.1 and 2.2).

-- a += b; d ^= a; d <<<= 16;
-- c += d; b ^= c; b <<<= 12;
-- a += b; d ^= a; d <<<= 8;
-- c += d; b ^= c; b <<<= 7;
unfoldable pub quarter : ℕ → ℕ → ℕ → ℕ → ℕ × ℕ × ℕ × ℕ
quarter a b c d =
    let a1 = add a b in let d1 = rotl (bit_xor d a1) 16 in
    let c1 = add c d1 in let b1 = rotl (bit_xor b c1) 12 in
    let a2 = add a1 b1 in let d2 = rotl (bit_xor d1 a2) 8 in
    let c2 = add c1 d2 in let b2 = rotl (bit_xor b1 c2) 7 in
    (a2, b2, c2, d2)

-- the quarter round of the words of a state at four indices
abbrev pub quarter_of : List ℕ → ℕ → ℕ → ℕ → ℕ → ℕ × ℕ × ℕ × ℕ
quarter_of s a b c d =
    quarter (slice_index s a) (slice_index s b) (slice_index s c) (slice_index s d)

-- the state with the words at a, b, c and d replaced by their quarter round
abbrev pub quarter_round : List ℕ → ℕ → ℕ → ℕ → ℕ → List ℕ
quarter_round s a b c d =
    let q = quarter_of s a b c d in
    slice_set (slice_set (slice_set (slice_set s a q.0) b q.1) c q.2) d q.3

-- Rounds on a state of sixteen words, read as four rows of four (2.3). `columns` and `diagonals`
-- list all sixteen words; RoundLemmas proves that each is four quarter rounds.

-- the state after a quarter round of each column
unfoldable pub columns : List ℕ → List ℕ
columns s =
    let p = quarter_of s 0 4 8 12 in let q = quarter_of s 1 5 9 13 in
    let r = quarter_of s 2 6 10 14 in let t = quarter_of s 3 7 11 15 in
    p.0 ∷ q.0 ∷ r.0 ∷ t.0
    ∷ p.1 ∷ q.1 ∷ r.1 ∷ t.1
    ∷ p.2 ∷ q.2 ∷ r.2 ∷ t.2
    ∷ p.3 ∷ q.3 ∷ r.3 ∷ t.3 ∷ []

-- the state after a quarter round of each diagonal
unfoldable pub diagonals : List ℕ → List ℕ
diagonals s =
    let p = quarter_of s 0 5 10 15 in let q = quarter_of s 1 6 11 12 in
    let r = quarter_of s 2 7 8 13 in let t = quarter_of s 3 4 9 14 in
    p.0 ∷ q.0 ∷ r.0 ∷ t.0
    ∷ t.1 ∷ p.1 ∷ q.1 ∷ r.1
    ∷ r.2 ∷ t.2 ∷ p.2 ∷ q.2
    ∷ q.3 ∷ r.3 ∷ t.3 ∷ p.3 ∷ []

-- the state after n double rounds, each of the columns and then of the diagonals
unfoldable pub rounds : ℕ → List ℕ → List ℕ
rounds zero s = s
rounds (suc n) s = diagonals (columns (rounds n s))

-- the sums of two states, word by word
unfoldable pub add_states : List ℕ → List ℕ → List ℕ
add_states x s = map (λ w. add (slice_index x w) (slice_index s w)) (range_with_len 0 16)

-- the state after n double rounds, added to the state before them
abbrev pub mix : ℕ → List ℕ → List ℕ
mix n s = add_states (rounds n s) s

-- Words as little-endian bytes (2.3).

-- the four bytes of a word
abbrev pub word_bytes : ℕ → List ℕ
word_bytes x = x % 256 ∷ x / 256 % 256 ∷ x / 256 ^ 2 % 256 ∷ x / 256 ^ 3 % 256 ∷ []

-- the bytes of a list of words
abbrev pub bytes : List ℕ → List ℕ
bytes [] = []
bytes (x ∷ xs) = word_bytes x ++ bytes xs

-- the words of a list of bytes, four bytes each; fewer than four at the end are dropped
abbrev pub words : List ℕ → List ℕ
words (a ∷ b ∷ c ∷ d ∷ bs) = (a + 256 * b + 256 ^ 2 * c + 256 ^ 3 * d) ∷ words bs
words _ = []

-- The two layouts of a state's last row. In that of the RFC (2.3) the counter has one word and the
-- nonce three. In the legacy layout, older than the RFC, each has two.
--
--            ietf                             legacy
--   const  const  const  const       const  const  const  const
--    key    key    key    key         key    key    key    key
--    key    key    key    key         key    key    key    key
--   count  nonce  nonce  nonce       count  count  nonce  nonce
pub data Layout : Type 0 where
  ietf : Layout
  legacy : Layout

-- how many counters there are
abbrev pub modulus : Layout → ℕ
modulus ietf = 2 ^ 32
modulus legacy = 2 ^ 64

-- the words of a counter, the low word first; it wraps
abbrev pub counter_words : Layout → ℕ → List ℕ
counter_words ietf c = c % 2 ^ 32 ∷ []
counter_words legacy c = c % 2 ^ 32 ∷ c / 2 ^ 32 % 2 ^ 32 ∷ []

-- The block function of a key, a nonce and a counter (2.3).

-- the constant words, the ASCII text "expand 32-byte k"
abbrev pub constants : List ℕ
constants = 0x61707865 ∷ 0x3320646e ∷ 0x79622d32 ∷ 0x6b206574 ∷ []

-- the state before the rounds
abbrev pub start : Layout → List ℕ → List ℕ → ℕ → List ℕ
start layout key nonce c = constants ++ words key ++ counter_words layout c ++ words nonce

-- the block of a key, a nonce and a counter: 64 bytes, after n double rounds; the counter wraps
abbrev pub block : ℕ → Layout → List ℕ → List ℕ → ℕ → List ℕ
block n layout key nonce c = bytes (mix n (start layout key nonce (c % modulus layout)))

-- The keystream, and bytes XORed (exclusive or) with it (2.4).

-- byte p of a stream of blocks of 64 bytes, in order of counter: byte 0 is the first of block 0, and
-- after the block with the greatest counter comes block 0 again
abbrev pub keystream : ℕ → (ℕ → List ℕ) → ℕ → ℕ
keystream counters block_at p = slice_index (block_at (p / 64 % counters)) (p % 64)

-- the keystream of a key and a nonce, after n double rounds: 10 for ChaCha20
abbrev pub chacha_stream : ℕ → Layout → List ℕ → List ℕ → ℕ → ℕ
chacha_stream n layout key nonce = keystream (modulus layout) (block n layout key nonce)

-- bytes XORed with the bytes of a stream from position p on: the RFC's initial counter c is p = 64 c
abbrev pub xor_stream : (ℕ → ℕ) → ℕ → List ℕ → List ℕ
xor_stream stream p [] = []
xor_stream stream p (x ∷ xs) = bit_xor x (stream p) ∷ xor_stream stream (p + 1) xs

-- n values of a stream, bytes or a generator's words, from position p on
abbrev pub stream_part : (ℕ → ℕ) → ℕ → ℕ → List ℕ
stream_part stream p zero = []
stream_part stream p (suc n) = stream p ∷ stream_part stream (p + 1) n
