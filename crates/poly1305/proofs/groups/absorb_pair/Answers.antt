use Rattle.std.proofs.Common.{List, ℕ, ◌+◌, ◌*◌, ◌%◌, ◌^◌, ◌∙◌, drop, refl, ap}
use Rattle.poly1305.specs.Poly1305.{prime}
use Rattle.poly1305.specs.Lanes.{lane}
use Rattle.poly1305.proofs.GroupLemmas.{mod_sum, mod_product, group, weighted_same, weighted_pair}
use Rattle.poly1305.proofs.groups.absorb_pair.Goals as goal

pub returns-clause-value : goal.returns-clause-value
returns-clause-value c r a powers holds =
    let text : List ℕ = c.args.pair.now in
    let v = lane c.args.d in
    let first = λ (k : ℕ). v k + group text k in
    let second = group (drop 64 text) in
    weighted_same r (lane c.sum.result) (λ k. first k * r ^ 8 + second k * r ^ 4)
    (λ k h.
    ap (λ n. n % prime) (c.sum.ensures.value k h)
    ∙ mod_sum (lane c.absorb_group.result k) (lane c.products.result k) (first k * r ^ 8) (second k * r ^ 4)
    (c.absorb_group.ensures.value k h
    ∙ mod_product (first k) (lane c.args.factors.eighth k) (first k) (r ^ 8) refl (powers.eighth k h))
    (c.products.ensures.value k h
    ∙ mod_product (lane c.load.result k) (lane c.args.factors.fourth k) (second k) (r ^ 4)
    (ap (λ n. n % prime) (c.load.ensures.value k h)) (powers.fourth k h)))
    ∙ weighted_pair r a v text holds

pub returns-clause-small : goal.returns-clause-small
returns-clause-small c k h =
    c.sum.ensures.small (2 ^ 61) (2 ^ 61) k h (c.absorb_group.ensures.small k h) (c.products.ensures.small k h)
