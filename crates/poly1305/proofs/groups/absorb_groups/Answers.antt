use Rattle.std.proofs.Common.{◌≡◌, ◌*◌, ◌/◌, ◌+◌, ◌^◌, ◌∙◌, List, ℕ, length, drop, ap, sym, refl, subst, arith}
use Rattle.poly1305.specs.Poly1305.{accumulator}
use Rattle.poly1305.specs.Lanes.{lane, Holds}
use Rattle.poly1305.proofs.AccumulatorLemmas.{accumulator_behind}
use Rattle.poly1305.proofs.GroupLemmas.{mod_product, group, weighted_same, weighted_step}
use Rattle.poly1305.proofs.groups.absorb_groups.Goals as goal

pub returns-then-bytes-at-lt64-clause-value : goal.returns-then-bytes-at-lt64-clause-value
returns-then-bytes-at-lt64-clause-value c r a powers holds =
    let text : List ℕ = c.args.bytes.now in
    let all : 8 * (length text / 128) ≡ 4 * (length text / 64) = omega arith in
    subst (λ n. Holds r c.absorb_pairs-after.result (accumulator r a text n)) all
    (c.absorb_pairs-after.ensures.value r a powers holds)

pub returns-clause-value : goal.returns-clause-value
returns-clause-value c r a powers holds =
    let text : List ℕ = c.args.bytes.now in
    let k = length text / 128 in
    let half = accumulator r a text (8 * k) in
    let last = drop (k * 128) text in
    let v = lane c.absorb_pairs-after.result in
    let place : k * 128 ≡ 16 * (8 * k) = omega arith in
    let all : 8 * k + 4 ≡ 4 * (length text / 64) = omega arith in
    let one : Holds r c.absorb_group.result (accumulator r half last 4) =
    weighted_same r (lane c.absorb_group.result) (λ k. (v k + group last k) * r ^ 4)
    (λ k h.
    c.absorb_group.ensures.value k h
    ∙ mod_product (v k + group last k) (lane c.args.factors.fourth k) (v k + group last k) (r ^ 4) refl
    (powers.fourth k h))
    ∙ weighted_step r (r ^ 4) half v last (c.absorb_pairs-after.ensures.value r a powers holds) in
    subst (Holds r c.absorb_group.result)
    (ap (λ n. accumulator r half (drop n text) 4) place ∙ sym (accumulator_behind r a text (8 * k) 4)
    ∙ ap (accumulator r a text) all)
    one
