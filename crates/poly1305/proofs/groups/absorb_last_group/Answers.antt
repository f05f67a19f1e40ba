use Rattle.std.proofs.Common.{ℕ, ◌<◌, ◌+◌, ◌*◌, ◌∙◌, drop, refl, arith}
use Rattle.poly1305.specs.Lanes.{lane, weight}
use Rattle.poly1305.proofs.GroupLemmas.{mod_sum, mod_product, group, weighted_last}
use Rattle.poly1305.proofs.groups.absorb_last_group.Goals as goal

pub returns-clause-value : goal.returns-clause-value
returns-clause-value c r a powers holds =
    let text = drop c.args.at c.args.bytes.now in
    let v = lane c.args.d in
    let w = lane c.absorb_group.result in
    let x = λ (k : ℕ). (v k + group text k) * weight r k in
    let same = λ (k : ℕ) (h : k < 4).
    c.absorb_group.ensures.value k h
    ∙ mod_product (v k + group text k) (lane c.args.factors.last k) (v k + group text k) (weight r k) refl
    (powers.last k h) in
    c.sum_of_lanes.ensures.value
    ∙ mod_sum (w 0 + w 1 + w 2) (w 3) (x 0 + x 1 + x 2) (x 3)
    (mod_sum (w 0 + w 1) (w 2) (x 0 + x 1) (x 2)
    (mod_sum (w 0) (w 1) (x 0) (x 1) (same 0 (omega arith)) (same 1 (omega arith))) (same 2 (omega arith)))
    (same 3 (omega arith))
    ∙ weighted_last r a v text holds
