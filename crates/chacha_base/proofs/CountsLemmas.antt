-- Counts of one call after another. The proofs of rounds, of the kernel, of the engine and of the byte stream cite
-- these. Read `Grows` of `Counts` first, and then the bounds below it.
use Rattle.std.proofs.Common.{◌≡◌, ℕ, ◌+◌, ◌-◌, ◌*◌, ◌/◌, ◌%◌, ◌<◌, ◌≤◌, min, ap, ◌∙◌, arith, subst, add-mul, mul_assoc, mul-le-mul_right}
use Rattle.std.proofs.lemmas.Grind.{common_steps}
use Rattle.chacha_base.specs.Counts.{Counts, Bounds, Grows, for_call, for_single, for_group, for_last_part, for_tail, tail_rounds, for_blocks, for_whole_blocks, for_bytes}
use Rattle.chacha_base.specs.Buffered.{left_at}

-- calls that grew exactly, and quarter rounds within bounds
grows-calls : {z : Bounds} {a b : Counts} → b.par ≡ a.par + z.par → b.other ≡ a.other + z.other
    → a.rounds + z.least ≤ b.rounds → b.rounds ≤ a.rounds + z.most → Grows z a b
grows-calls par other least most = record {
  par_from = omega (arith, par);
  par_to = omega (arith, par);
  other_from = omega (arith, other);
  other_to = omega (arith, other);
  rounds_from = least;
  rounds_to = most;
}

-- nothing more
pub grows-none : (a : Counts) → Grows (for_call 0 0 0) a a
grows-none a = grows-calls (omega arith) (omega arith) (omega arith) (omega arith)

-- one other call, and exactly so many quarter rounds
pub grows-other : (n : ℕ) (a : Counts) {b : Counts}
    → b ≡ record a { other = a.other + 1; rounds = a.rounds + n } → Grows (for_single n) a b
grows-other n a exact =
    let par = ap (λ (s : Counts). s.par) exact in
    let rounds = ap (λ (s : Counts). s.rounds) exact in
    grows-calls (omega (arith, par)) (ap (λ s. s.other) exact) (omega (arith, rounds)) (omega (arith, rounds))

-- one parallel call, and exactly so many quarter rounds
pub grows-par : (n : ℕ) (a : Counts) {b : Counts}
    → b ≡ record a { par = a.par + 1; rounds = a.rounds + n } → Grows (for_call 1 0 n) a b
grows-par n a exact =
    let other = ap (λ (s : Counts). s.other) exact in
    let rounds = ap (λ (s : Counts). s.rounds) exact in
    grows-calls (ap (λ s. s.par) exact) (omega (arith, other)) (omega (arith, rounds)) (omega (arith, rounds))

-- one other call for a last part
pub grows-last : (one n : ℕ) {a b : Counts} → 0 < n → Grows (for_single one) a b → Grows (for_last_part one n) a b
grows-last one n some grows =
    let single : min 1 n ≡ 1 = omega arith in
    let cost : 1 * one ≡ one = omega arith in
    rw (single, cost) grows

-- one after another
grows-then : {x y z : Bounds} {a b c : Counts} → Grows x a b → Grows y b c
    → x.par + y.par ≤ z.par → x.other + y.other ≤ z.other
    → z.least ≤ x.least + y.least → x.most + y.most ≤ z.most → Grows z a c
grows-then first then par other least most = record {
  par_from = omega (arith, first.par_from, then.par_from);
  par_to = omega (arith, first.par_to, then.par_to, par);
  other_from = omega (arith, first.other_from, then.other_from);
  other_to = omega (arith, first.other_to, then.other_to, other);
  rounds_from = omega (arith, first.rounds_from, then.rounds_from, least);
  rounds_to = omega (arith, first.rounds_to, then.rounds_to, most);
}

-- one group more
pub grows-group : {k cost : ℕ} {a b c : Counts} → Grows (for_call k 0 (k * cost)) a b → Grows (for_group cost) b c
    → Grows (for_call (k + 1) 0 ((k + 1) * cost)) a c
grows-group {k} {cost} groups group =
    let sum = add-mul k 1 cost in
    grows-then groups group (omega arith) (omega arith) (omega (arith, sum)) (omega (arith, sum))

-- one single block more
pub grows-single : {k cost : ℕ} {a b c : Counts} → Grows (for_call 0 k (k * cost)) a b → Grows (for_single cost) b c
    → Grows (for_call 0 (k + 1) ((k + 1) * cost)) a c
grows-single {k} {cost} blocks block =
    let sum = add-mul k 1 cost in
    grows-then blocks block (omega arith) (omega arith) (omega (arith, sum)) (omega (arith, sum))

-- groups, and then the rest
pub grows-blocks : (w par one m : ℕ) {a b c : Counts} → Grows (for_call (m / w) 0 (m / w * par)) a b
    → Grows (for_tail one (m % w)) b c → Grows (for_whole_blocks w par one m) a c
grows-blocks w par one m groups tail =
    grows-then groups tail (omega arith) (omega arith) (omega (arith, add-mul (min 1 (m % w)) 0 one))
    (omega (arith, add-mul (m % w) 0 one))

-- whole blocks and a last part
pub grows-rest : {n whole : ℕ} {a b c : Counts} (w par one last : ℕ) → whole ≡ n / 64 * 64 → last + n / 64 * 64 ≡ n
    → Grows (for_whole_blocks w par one (whole / 64)) a b → Grows (for_last_part one last) b c
    → Grows (for_blocks w par one (n / 64) (min 1 (n % 64))) a c
grows-rest {n} {whole} w par one last cut all first then =
    let blocks : whole / 64 ≡ n / 64 = omega arith in
    let part : last ≡ n % 64 = omega arith in
    let few = min 1 (whole / 64 % w) in
    rw (← blocks, ← part) (grows-then first then (omega arith) (omega arith)
    (omega (arith, add-mul few (min 1 last) one, add-mul few 0 one))
    (omega (arith, add-mul (whole / 64 % w) (min 1 last) one, add-mul (whole / 64 % w) 0 one)))

-- the same after what was left of a block
pub grows-bytes : {len begun : ℕ} {a b : Counts} (w par one p rest : ℕ) → begun ≡ min len (left_at p)
    → rest + begun ≡ len → Grows (for_blocks w par one (rest / 64) (min 1 (rest % 64))) a b
    → Grows (for_bytes w par one p len) a b
grows-bytes {len} {a = a} {b = b} w par one p rest cut all grows =
    let after : rest ≡ len - left_at p = omega arith in
    subst (λ n. Grows (for_blocks w par one (n / 64) (min 1 (n % 64))) a b) after grows

-- so many quarter rounds more
abbrev pub plus_rounds : ℕ → Counts → Counts
plus_rounds n s = record s { rounds = s.rounds + n }

-- a tail of some blocks: one other call, and the quarter rounds of a single block
pub grows-tail : {a b c : Counts} (one k : ℕ) → min 1 k ≡ 1
    → b ≡ record a { other = a.other + 1 } → c ≡ plus_rounds one b → Grows (for_tail one k) a c
grows-tail {a} {c = c} one k some call made =
    let few : 1 ≤ k = omega (arith, some) in
    let least : min 1 k * one ≡ 1 * one = ap (λ m. m * one) some in
    let most : 1 * one ≤ k * one = mul-le-mul_right one few in
    grows-then (grows-other one a (made ∙ ap (plus_rounds one) call)) (grows-none c)
    (omega arith) (omega (arith, few)) (omega (arith, least)) (omega (arith, most))

-- a tail by its quarter rounds, where a single block takes two
pub grows-narrow : (one n up_to_8 k : ℕ) {a b : Counts} → 2 ≤ up_to_8 → up_to_8 ≤ 8 → Grows (for_tail one k) a b
    → b.rounds ≡ a.rounds + tail_rounds up_to_8 k * n → Grows (for_tail (2 * n) k) a b
grows-narrow one n up_to_8 k some few grows rounds =
    let least : min 1 k * 2 ≤ tail_rounds up_to_8 k = grind (arith, common_steps) in
    let most : tail_rounds up_to_8 k ≤ k * 2 = grind (arith, common_steps) in
    let fewest : min 1 k * (2 * n) ≤ tail_rounds up_to_8 k * n =
    rw (← mul_assoc (min 1 k) 2 n) (mul-le-mul_right n least) in
    let greatest : tail_rounds up_to_8 k * n ≤ k * (2 * n) = rw (← mul_assoc k 2 n) (mul-le-mul_right n most) in
    record {
      par_from = grows.par_from;
      par_to = grows.par_to;
      other_from = grows.other_from;
      other_to = grows.other_to;
      rounds_from = omega (arith, rounds, fewest);
      rounds_to = omega (arith, rounds, greatest);
    }

-- none, one more, and two rounds more, of so many quarter rounds each
pub counted-none : (one : ℕ) (a : Counts) → a ≡ plus_rounds (0 * one) a
counted-none one a = let none : a.rounds ≡ a.rounds + 0 * one = omega arith in ap (λ k. record a { rounds = k }) none

pub counted-more : (one n : ℕ) (a : Counts) {b c : Counts} → b ≡ plus_rounds (n * one) a → c ≡ plus_rounds one b
    → c ≡ plus_rounds ((n + 1) * one) a
counted-more one n a before next =
    let more : a.rounds + n * one + one ≡ a.rounds + (n + 1) * one = omega arith in
    next ∙ ap (plus_rounds one) before ∙ ap (λ k. record a { rounds = k }) more

pub counted-double_round : (one n : ℕ) (a : Counts) {b c d : Counts} → b ≡ plus_rounds (2 * one * n) a
    → c ≡ plus_rounds one b → d ≡ plus_rounds one c → d ≡ plus_rounds (2 * one * (n + 1)) a
counted-double_round one n a before first second =
    let more : a.rounds + 2 * one * n + one + one ≡ a.rounds + 2 * one * (n + 1) = omega arith in
    second ∙ ap (plus_rounds one) (first ∙ ap (plus_rounds one) before) ∙ ap (λ k. record a { rounds = k }) more
