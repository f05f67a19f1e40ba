use Rattle.std.proofs.Common.{◌≡◌, ◌+◌, ◌%◌, ◌^◌, ◌∙◌, ap, refl, drop}
use Rattle.poly1305.specs.Poly1305.{prime}
use Rattle.poly1305.specs.Lanes.{lane}
use Rattle.poly1305.proofs.GroupLemmas.{mod_sum, mod_product, group}
use Rattle.poly1305.proofs.groups.absorb_group.Goals as goal

pub products-requires-clause-h : goal.products-requires-clause-h
products-requires-clause-h c k h =
    c.sum.ensures.small (2 ^ 27) (2 ^ 27) k h (c.carry.ensures.small k h) (c.load.ensures.small k h)

pub returns-clause-value : goal.returns-clause-value
returns-clause-value c k h =
    let d = lane c.args.d k in
    let f = lane c.args.factor k in
    let m = group (drop c.args.at c.args.bytes.now) k in
    let sum : lane c.sum.result k % prime ≡ (d + m) % prime =
    ap (λ n. n % prime) (c.sum.ensures.value k h)
    ∙ mod_sum (lane c.carry.result k) (lane c.load.result k) d m
    (c.carry.ensures.value k h) (ap (λ n. n % prime) (c.load.ensures.value k h)) in
    c.products.ensures.value k h ∙ mod_product (lane c.sum.result k) f (d + m) f sum refl
