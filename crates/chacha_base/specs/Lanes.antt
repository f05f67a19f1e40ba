-- The lanes of vectors: a state in rows, rotated so that each diagonal becomes a column, and states
-- in columns.
use Rattle.std.specs.Prelude.{ℕ, ◌+◌, ◌-◌, ◌*◌, ◌%◌, List, [], ◌∷◌, ◌++◌, slice_index}
use Rattle.chacha_base.specs.declared.backends.vector.FourVectors.{FourVectors}
use Rattle.chacha_base.specs.declared.backends.columns.Columns.{Columns}
use Rattle.chacha_base.specs.ChaCha.{add}

-- the four words from index 4 g on, where `lane` gives the words one after another
abbrev pub quad : (ℕ → ℕ) → ℕ → List ℕ
quad lane g = lane (4 * g) ∷ lane (4 * g + 1) ∷ lane (4 * g + 2) ∷ lane (4 * g + 3) ∷ []

-- row r of a state
abbrev pub state_row : List ℕ → ℕ → List ℕ
state_row s r = quad (slice_index s) r

-- a state with another last row
abbrev pub with_last_row : List ℕ → List ℕ → List ℕ
with_last_row s last = state_row s 0 ++ state_row s 1 ++ state_row s 2 ++ state_row last 0

-- the first two words of two quads, and the last two, word by word by turns
abbrev pub interleaved_low : List ℕ → List ℕ → List ℕ
interleaved_low x y = slice_index x 0 ∷ slice_index y 0 ∷ slice_index x 1 ∷ slice_index y 1 ∷ []

abbrev pub interleaved_high : List ℕ → List ℕ → List ℕ
interleaved_high x y = slice_index x 2 ∷ slice_index y 2 ∷ slice_index x 3 ∷ slice_index y 3 ∷ []

-- four words rotated to the left by k places
abbrev pub rotated : ℕ → List ℕ → List ℕ
rotated k x =
    slice_index x (k % 4) ∷ slice_index x ((k + 1) % 4)
    ∷ slice_index x ((k + 2) % 4) ∷ slice_index x ((k + 3) % 4) ∷ []

-- the rows of a state, each rotated to the left by its own number of places
abbrev pub rows_rotated : (a b c d : ℕ) → List ℕ → List ℕ
rows_rotated a b c d s =
    rotated a (state_row s 0) ++ rotated b (state_row s 1)
    ++ rotated c (state_row s 2) ++ rotated d (state_row s 3)

-- each diagonal becomes a column: row `fixed` stays in place, and the three rows after it, in a
-- circle, rotate by 1, 2 and 3 places
abbrev pub diagonalized : ℕ → List ℕ → List ℕ
diagonalized fixed = let k = 4 - fixed % 4 in rows_rotated k (k + 1) (k + 2) (k + 3)

-- each row is rotated back
abbrev pub undiagonalized : ℕ → List ℕ → List ℕ
undiagonalized fixed = let k = 4 + fixed % 4 in rows_rotated k (k - 1) (k - 2) (k - 3)

-- Words of states in vectors, where `lane` gives the lanes of a vector.

-- lane j of four vectors
abbrev pub lanes_at : {V : Type 0} → (V → ℕ → ℕ) → FourVectors V → ℕ → ℕ × ℕ × ℕ × ℕ
lanes_at lane x j = (lane x.0 j, lane x.1 j, lane x.2 j, lane x.3 j)

-- the sums of lane j of four vectors and of four others
abbrev pub sums_at : {V : Type 0} → (V → ℕ → ℕ) → (x y : FourVectors V) → ℕ → ℕ × ℕ × ℕ × ℕ
sums_at lane x y j = (
  add (lane x.0 j) (lane y.0 j),
  add (lane x.1 j) (lane y.1 j),
  add (lane x.2 j) (lane y.2 j),
  add (lane x.3 j) (lane y.3 j),
)

-- lane j of four vectors, as a list
abbrev pub words_at : {V : Type 0} → (V → ℕ → ℕ) → (w0 w1 w2 w3 : V) → ℕ → List ℕ
words_at lane w0 w1 w2 w3 j = lane w0 j ∷ lane w1 j ∷ lane w2 j ∷ lane w3 j ∷ []

-- the sixteen words of block g of four vectors in rows: quad g of each vector
abbrev pub block_in_rows : {V : Type 0} → (V → ℕ → ℕ) → FourVectors V → ℕ → List ℕ
block_in_rows lane x g =
    quad (lane x.0) g ++ quad (lane x.1) g ++ quad (lane x.2) g ++ quad (lane x.3) g

-- the sixteen words of the block in lane j
abbrev pub block_in_columns : {V : Type 0} → (V → ℕ → ℕ) → Columns V → ℕ → List ℕ
block_in_columns lane x j =
    words_at lane x.0.0 x.1.0 x.2.0 x.3.0 j ++ words_at lane x.0.1 x.1.1 x.2.1 x.3.1 j
    ++ words_at lane x.0.2 x.1.2 x.2.2 x.3.2 j ++ words_at lane x.0.3 x.1.3 x.2.3 x.3.3 j
