use Rattle.std.proofs.Common.{◌*◌, ◌/◌, ◌^◌, ◌<◌, arith, ap, ap₂, ◌∙◌}
use Rattle.std.proofs.Math.Nat.{mul-lt-mul_of_pos_right}
use Rattle.std.proofs.lemmas.Nat.{mul-lt}
use Rattle.examples.proofs.simulation.below.Goals as goal

pub overflow_mul-product : goal.overflow_mul-product
overflow_mul-product g c =
    let product : c.from.result * c.from-2.result < 2 ^ 64 * 2 ^ 64 =
    mul-lt c.from.result c.from-2.result (2 ^ 64) (2 ^ 64) (omega arith) (omega arith) in
    omega arith

pub overflow_cast-result : goal.overflow_cast-result
overflow_cast-result g c =
    let product : c.from.result * c.from-2.result < 2 ^ 64 * 2 ^ 64 =
    mul-lt c.from.result c.from-2.result (2 ^ 64) (2 ^ 64) (omega arith) (omega arith) in
    omega arith

pub returns-clause-below : goal.returns-clause-below
returns-clause-below g c =
    let word : c.from.result < 2 ^ 64 = omega arith in
    let some : 0 < c.from-2.result = omega arith in
    let product : c.from.result * c.from-2.result < 2 ^ 64 * c.from-2.result = mul-lt-mul_of_pos_right word some in
    omega arith

pub returns-clause-value : goal.returns-clause-value
returns-clause-value g c =
    ap₂ (λ word bound. word * bound / 2 ^ 64)
    (c.from.ensures ∙ ap (λ draw. draw.0) c.next_u64.ensures.value)
    c.from-2.ensures
