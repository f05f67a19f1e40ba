-- The rounds on states of sixteen words, and that they are four quarter rounds one after another. The proofs of
-- `rounds` and of `Soft` cite these. Read `ChaCha` first.
use Rattle.std.proofs.Common.{◌≡◌, ℕ, ◌<◌, List, length, slice_index, refl}
use Rattle.chacha_base.proofs.ListLemmas.{by_words}
use Rattle.chacha_base.specs.ChaCha.{quarter_round, add, columns, diagonals, add_states}
use Rattle.std.proofs.lemmas.List.FromFn.{fill_by_all}

-- the columns one after another, and the diagonals
abbrev columns_in_turn : List ℕ → List ℕ
columns_in_turn s =
    quarter_round (quarter_round (quarter_round (quarter_round s 0 4 8 12) 1 5 9 13) 2 6 10 14) 3 7 11 15

abbrev diagonals_in_turn : List ℕ → List ℕ
diagonals_in_turn s =
    quarter_round (quarter_round (quarter_round (quarter_round s 0 5 10 15) 1 6 11 12) 2 7 8 13) 3 4 9 14

pub columns_are : (s : List ℕ) → length s ≡ 16 → columns_in_turn s ≡ columns s
unfolding columns
columns_are s long = by_words 16 (λ t. columns_in_turn t ≡ columns t) s long refl

pub diagonals_are : (s : List ℕ) → length s ≡ 16 → diagonals_in_turn s ≡ diagonals s
unfolding diagonals
diagonals_are s long = by_words 16 (λ t. diagonals_in_turn t ≡ diagonals t) s long refl

-- a list of sixteen words that are sums, one by one
pub add_states_are : (t x s : List ℕ) → length t ≡ 16
    → ((w : ℕ) → w < 16 → slice_index t w ≡ add (slice_index x w) (slice_index s w)) → t ≡ add_states x s
unfolding add_states
add_states_are t x s h sums = fill_by_all (λ w. add (slice_index x w) (slice_index s w)) t 16 0 h sums
