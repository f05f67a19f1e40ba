-- Counts of the steps that calls take.
use Rattle.std.specs.Prelude.{ℕ, ◌+◌, ◌-◌, ◌*◌, ◌/◌, ◌%◌, ◌≤◌, min, nat_lt, if◌then◌else◌}

-- parallel calls of a backend, other calls for a block, and quarter rounds
pub record Counts : Type 0 where
  pub par : ℕ
  pub other : ℕ
  pub rounds : ℕ

-- what a call may add: upper bounds of parallel and of other calls, and a lower and an upper bound of
-- quarter rounds
pub record Bounds : Type 0 where
  pub par : ℕ
  pub other : ℕ
  pub least : ℕ
  pub most : ℕ

-- no count fell, and each grew within the bounds
pub record Grows (bounds : Bounds) (old new : Counts) : Type 0 where
  pub par_from : old.par ≤ new.par
  pub par_to : new.par ≤ old.par + bounds.par
  pub other_from : old.other ≤ new.other
  pub other_to : new.other ≤ old.other + bounds.other
  pub rounds_from : old.rounds + bounds.least ≤ new.rounds
  pub rounds_to : new.rounds ≤ old.rounds + bounds.most

-- exactly so many quarter rounds, and at most so many calls
abbrev pub for_call : (par other rounds : ℕ) → Bounds
for_call par other rounds = record { par = par; other = other; least = rounds; most = rounds }

-- for one block
abbrev pub for_single : (rounds : ℕ) → Bounds
for_single rounds = for_call 0 1 rounds

-- for a parallel call
abbrev pub for_group : (rounds : ℕ) → Bounds
for_group rounds = for_call 1 0 rounds

-- for a last part of n bytes, fewer than a block: one block, and none for no bytes
abbrev pub for_last_part : (one n : ℕ) → Bounds
for_last_part one n = for_call 0 (min 1 n) (min 1 n * one)

-- for k blocks, fewer than a parallel call makes, with `one` quarter rounds for a single block
abbrev pub for_tail : (one k : ℕ) → Bounds
for_tail one k = record { par = 0; other = k; least = min 1 k * one; most = k * one }

-- quarter rounds, for each double round, of a tail of k blocks: up to four blocks take two, five and
-- six take four, seven and eight take `up_to_8`, and more take eight
abbrev pub tail_rounds : (up_to_8 k : ℕ) → ℕ
tail_rounds up_to_8 k =
    if nat_lt k 1 then 0 else (if nat_lt k 5 then 2 else
    (if nat_lt k 7 then 4 else (if nat_lt k 9 then up_to_8 else 8)))

-- where the width is sixteen: four blocks fit in one vector for each row, eight in two, and more in
-- four
abbrev pub tail_of_16 : ℕ → ℕ
tail_of_16 k = tail_rounds 4 k

-- where the width is eight: four blocks fit in one vector for each row, six in two, and seven are in
-- columns
abbrev pub tail_of_8 : ℕ → ℕ
tail_of_8 k = tail_rounds 8 k

-- for m blocks in groups of w, with `par` quarter rounds for a group and `one` for a single block,
-- and k single blocks after them
abbrev pub for_blocks : (w par one m k : ℕ) → Bounds
for_blocks w par one m k = record {
  par = m / w;
  other = m % w + k;
  least = m / w * par + (min 1 (m % w) + k) * one;
  most = m / w * par + (m % w + k) * one;
}

-- for m blocks and no more
abbrev pub for_whole_blocks : (w par one m : ℕ) → Bounds
for_whole_blocks w par one m = for_blocks w par one m 0

-- for so many bytes from position p on: first those that the begun block still has, then whole
-- blocks, then a last part
abbrev pub for_bytes : (w par one p len : ℕ) → Bounds
for_bytes w par one p len =
    let rest = len - (64 - p % 64) % 64 in
    for_blocks w par one (rest / 64) (min 1 (rest % 64))
