-- Blocks in rows: set, rotated, summed and stored. The proofs of `rows`, `columns`, `group`, `rounds` and the kernel
-- cite these. Read `Lanes` first.
use Rattle.std.proofs.Common.{◌≡◌, ℕ, ◌<◌, ◌≤◌, ◌≢◌, ◌+◌, ◌-◌, ◌*◌, ◌%◌, Bool, true, false, List, [], ◌∷◌, ◌++◌, length, drop, slice_index, refl, ap, ◌∙◌, arith, set, length-set, get_or-set_same, get_or-set_other, if◌then◌else◌}
use Rattle.chacha_base.specs.declared.backends.vector.FourVectors.{FourVectors}
use Rattle.chacha_base.specs.ChaCha.{Layout, quarter, columns, diagonals, add_states}
use Rattle.chacha_base.specs.Lanes.{quad, state_row, with_last_row, rows_rotated, diagonalized, undiagonalized, lanes_at, sums_at, block_in_rows}
use Rattle.chacha_base.specs.State.{row_at, state_at, state_after}
use Rattle.chacha_base.proofs.ListLemmas.{below_four, four_listed}
use Rattle.chacha_base.proofs.StateLemmas.{by_layout}

-- the sixteen words of a state, by its columns
abbrev pub of_columns : (p q r s : ℕ × ℕ × ℕ × ℕ) → List ℕ
of_columns p q r s =
    (p.0 ∷ q.0 ∷ r.0 ∷ s.0 ∷ []) ++ (p.1 ∷ q.1 ∷ r.1 ∷ s.1 ∷ [])
    ++ (p.2 ∷ q.2 ∷ r.2 ∷ s.2 ∷ []) ++ (p.3 ∷ q.3 ∷ r.3 ∷ s.3 ∷ [])

pub of_columns-same : {a b c d p q r s : ℕ × ℕ × ℕ × ℕ} → p ≡ a → q ≡ b → r ≡ c → s ≡ d
    → of_columns p q r s ≡ of_columns a b c d
of_columns-same ea eb ec ed = cc

-- a column, and it word by word
abbrev pub column_of : (a b c d : ℕ) → ℕ × ℕ × ℕ × ℕ
column_of a b c d = (a, b, c, d)

pub column_of-same : {a b c d p q r s : ℕ} → p ≡ a → q ≡ b → r ≡ c → s ≡ d → column_of p q r s ≡ column_of a b c d
column_of-same ea eb ec ed = cc

-- what is made of two lists, where one or the other pair is taken
pub either-same : {a b p q r s : List ℕ} (f : List ℕ → List ℕ → List ℕ) (front : Bool)
    → (front ≡ true → a ≡ f p r) → (front ≡ false → b ≡ f q s)
    → (if front then a else b) ≡ f (if front then p else q) (if front then r else s)
either-same f true first second = first refl
either-same f false first second = second refl

-- a quad, word by word
pub quad-same : (f g : ℕ → ℕ) (k : ℕ) → ((j : ℕ) → 4 * k ≤ j → j < 4 * k + 4 → f j ≡ g j) → quad f k ≡ quad g k
quad-same f g k same =
    four_listed (same (4 * k) (omega arith) (omega arith)) (same (4 * k + 1) (omega arith) (omega arith))
    (same (4 * k + 2) (omega arith) (omega arith)) (same (4 * k + 3) (omega arith) (omega arith))

-- a quad of sixteen words that repeat
pub quad-repeated : (w0 w1 w2 w3 k : ℕ) → k < 4
    → (let four = w0 ∷ w1 ∷ w2 ∷ w3 ∷ [] in quad (slice_index (four ++ four ++ four ++ four)) k ≡ four)
quad-repeated w0 w1 w2 w3 =
    let four = w0 ∷ w1 ∷ w2 ∷ w3 ∷ [] in
    below_four (λ k. quad (slice_index (four ++ four ++ four ++ four)) k ≡ four) refl refl refl refl

-- four words written at different places
abbrev pub set_four : (s : List ℕ) (p q : ℕ × ℕ × ℕ × ℕ) → List ℕ
set_four s p q = set (set (set (set s p.0 q.0) p.1 q.1) p.2 q.2) p.3 q.3

pub words-written : {n : ℕ} (s : List ℕ) (p q : ℕ × ℕ × ℕ × ℕ) → length s ≡ n
    → (p.0 < n) × (p.1 < n) × (p.2 < n) × (p.3 < n)
    → (p.0 ≢ p.1) × (p.0 ≢ p.2) × (p.0 ≢ p.3) × (p.1 ≢ p.2) × (p.1 ≢ p.3) × (p.2 ≢ p.3)
    → (let word = slice_index (set_four s p q) in column_of (word p.0) (word p.1) (word p.2) (word p.3) ≡ q)
words-written s p q long within apart =
    let t = set s p.0 q.0 in
    let u = set t p.1 q.1 in
    let v = set u p.2 q.2 in
    let lt = length-set s p.0 q.0 ∙ long in
    let lu = length-set t p.1 q.1 ∙ lt in
    let lv = length-set u p.2 q.2 ∙ lu in
    column_of-same
    (get_or-set_other v p.3 p.0 q.3 0 apart.2 ∙ get_or-set_other u p.2 p.0 q.2 0 apart.1
    ∙ get_or-set_other t p.1 p.0 q.1 0 apart.0 ∙ get_or-set_same s p.0 q.0 0 (rw long within.0))
    (get_or-set_other v p.3 p.1 q.3 0 apart.4 ∙ get_or-set_other u p.2 p.1 q.2 0 apart.3
    ∙ get_or-set_same t p.1 q.1 0 (rw lt within.1))
    (get_or-set_other v p.3 p.2 q.3 0 apart.5 ∙ get_or-set_same u p.2 q.2 0 (rw lu within.2))
    (get_or-set_same v p.3 q.3 0 (rw lv within.3))

-- the words after a quad is written: those of the quad, and those of another
abbrev quad_places : ℕ → ℕ × ℕ × ℕ × ℕ
quad_places g = (4 * g, 4 * g + 1, 4 * g + 2, 4 * g + 3)

pub quad-written : (s : List ℕ) (g : ℕ) (q : ℕ × ℕ × ℕ × ℕ) → 4 * g + 3 < length s
    → quad (slice_index (set_four s (quad_places g) q)) g ≡ q.0 ∷ q.1 ∷ q.2 ∷ q.3 ∷ []
quad-written s g q inside =
    ap (λ c. c.0 ∷ c.1 ∷ c.2 ∷ c.3 ∷ []) (words-written s (quad_places g) q refl
    (omega arith, omega arith, omega arith, inside)
    (omega arith, omega arith, omega arith, omega arith, omega arith, omega arith))

pub quad-elsewhere : (s : List ℕ) (g : ℕ) (q : ℕ × ℕ × ℕ × ℕ) (h : ℕ) → h ≢ g
    → quad (slice_index (set_four s (quad_places g) q)) h ≡ quad (slice_index s) h
quad-elsewhere s g q h apart =
    quad-same (slice_index (set_four s (quad_places g) q)) (slice_index s) h (λ i from to.
    get_or-set_other _ (4 * g + 3) i q.3 0 (omega arith) ∙ get_or-set_other _ (4 * g + 2) i q.2 0 (omega arith)
    ∙ get_or-set_other _ (4 * g + 1) i q.1 0 (omega arith) ∙ get_or-set_other s (4 * g) i q.0 0 (omega arith))

-- the quarter round of each lane is a round of the columns of each block
pub columns-of-lanes : {V : Type 0} (n : ℕ) (lane : V → ℕ → ℕ) (x y : FourVectors V)
    → ((j : ℕ) → j < 4 * n → lanes_at lane y j ≡ quarter (lane x.0 j) (lane x.1 j) (lane x.2 j) (lane x.3 j))
    → (g : ℕ) → g < n → block_in_rows lane y g ≡ columns (block_in_rows lane x g)
unfolding columns
columns-of-lanes n lane x y e g h =
    of_columns-same (e (4 * g) (omega arith)) (e (4 * g + 1) (omega arith))
    (e (4 * g + 2) (omega arith)) (e (4 * g + 3) (omega arith))

-- the sums of each lane are the sums of each block
pub sums-of-lanes : {V : Type 0} (n : ℕ) (lane : V → ℕ → ℕ) (x y z : FourVectors V)
    → ((j : ℕ) → j < 4 * n → lanes_at lane z j ≡ sums_at lane x y j)
    → (g : ℕ) → g < n → block_in_rows lane z g ≡ add_states (block_in_rows lane x g) (block_in_rows lane y g)
unfolding add_states
sums-of-lanes n lane x y z e g h =
    of_columns-same (e (4 * g) (omega arith)) (e (4 * g + 1) (omega arith))
    (e (4 * g + 2) (omega arith)) (e (4 * g + 3) (omega arith))

-- the columns of a state with its rows rotated are its diagonals, whichever row is fixed
rotated_by : (s : List ℕ) (k : ℕ) → k < 4
    → (let j = 4 + k in let i = 4 - k in
    rows_rotated j (j - 1) (j - 2) (j - 3) (columns (rows_rotated i (i + 1) (i + 2) (i + 3) s)) ≡ diagonals s)
unfolding columns diagonals
rotated_by s =
    below_four (λ k. let j = 4 + k in let i = 4 - k in
    rows_rotated j (j - 1) (j - 2) (j - 3) (columns (rows_rotated i (i + 1) (i + 2) (i + 3) s)) ≡ diagonals s)
    refl refl refl refl

pub columns-diagonalized : (fixed : ℕ) (s : List ℕ) → undiagonalized fixed (columns (diagonalized fixed s))
    ≡ diagonals s
columns-diagonalized fixed s = rotated_by s (fixed % 4) (omega arith)

-- a state with the last row of one of the next states is that state
pub with_last_row-state_after : (layout : Layout) (i : ℕ) (s : List ℕ) → length s ≡ 16
    → with_last_row s (drop 12 (state_after layout i s)) ≡ state_after layout i s
with_last_row-state_after layout i s long =
    by_layout 16 (λ l t. with_last_row t (drop 12 (state_after l i t)) ≡ state_after l i t) layout s long refl refl

-- a copy of the last row that gets a counter is the last row of the state with that counter
pub last_row-state_at : (layout : Layout) (c : ℕ) (s row : List ℕ) → length s ≡ 16
    → row ≡ row_at layout c (state_row s 3) → row ≡ drop 12 (state_at layout c s)
last_row-state_at layout c s row long set =
    set ∙ by_layout 16 (λ l t. row_at l c (state_row t 3) ≡ drop 12 (state_at l c t)) layout s long refl refl
