use Rattle.std.proofs.Common.{◌≡◌, ℕ, List, ◌+◌, ◌-◌, ◌*◌, ◌/◌, ◌%◌, ◌^◌, ◌∙◌, length, take, drop, ap, sym, arith, length-take}
use Rattle.std.proofs.lemmas.Nat.{mul-mod_second}
use Rattle.std.proofs.lemmas.List.{take-append-drop}
use Rattle.poly1305.specs.Poly1305.{prime, accumulator}
use Rattle.poly1305.specs.Limbs.{value_of, r_value}
use Rattle.poly1305.specs.Lanes.{lane, weighted, Holds}
use Rattle.poly1305.proofs.AccumulatorLemmas.{accumulator_behind, accumulator_front}
use Rattle.poly1305.proofs.groups.absorb_in_lanes.Goals as goal

-- an accumulator in lane 0
weighted_first : (r a : ℕ) (v : ℕ → ℕ) → v 0 ≡ a → v 1 ≡ 0 → v 2 ≡ 0 → v 3 ≡ 0 → weighted r v ≡ r ^ 4 * a
weighted_first r a v e0 e1 e2 e3 = rw (e0, e1, e2, e3) (omega arith)

pub returns-clause-value : goal.returns-clause-value
returns-clause-value c =
    let r = r_value c.args.r in
    let h = value_of c.args.h in
    let a = h % prime in
    let text : List ℕ = c.args.bytes.now in
    let last = (length text / 64 - 1) * 64 in
    let k = 4 * (length text / 64 - 1) in
    let front = take last text in
    let same = c.side_by_side-first.ensures in
    let start : Holds r c.side_by_side-first.result a =
    ap (λ n. n % prime)
    (weighted_first r h (lane c.side_by_side-first.result) same.lane_0 same.lane_1 same.lane_2 same.lane_3)
    ∙ sym (mul-mod_second (r ^ 4) h prime) in
    let long : length front ≡ last = omega (arith, length-take last text) in
    let count : 4 * (length front / 64) ≡ k = omega arith in
    let place : last ≡ 16 * k = omega arith in
    let all : k + 4 ≡ 4 * (length text / 64) = omega (arith, c.requires.some) in
    let before : accumulator r a front (4 * (length front / 64)) ≡ accumulator r a text k =
    ap (accumulator r a front) count ∙ sym (accumulator_front r a front (drop last text) k (omega arith))
    ∙ ap (λ xs. accumulator r a xs k) (take-append-drop last text) in
    c.absorb_last_group.ensures.value r (accumulator r a front (4 * (length front / 64))) c.powers-factors.ensures
    (c.absorb_groups.ensures.value r a c.powers-factors.ensures start)
    ∙ ap (λ b. accumulator r b (drop last text) 4) before
    ∙ ap (λ n. accumulator r (accumulator r a text k) (drop n text) 4) place
    ∙ sym (accumulator_behind r a text k 4) ∙ ap (accumulator r a text) all
