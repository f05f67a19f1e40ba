use Rattle.std.proofs.Common.{◌≡◌, ℕ, List, ◌+◌, ◌*◌, ◌/◌, ◌%◌, ◌∙◌, length, drop, ap, sym, arith, length-drop}
use Rattle.poly1305.specs.Poly1305.{prime, accumulator}
use Rattle.poly1305.specs.Limbs.{value_of, r_value}
use Rattle.poly1305.proofs.AccumulatorLemmas.{accumulator_behind}
use Rattle.poly1305.proofs.groups.absorb_long.Goals as goal

pub returns-clause-value : goal.returns-clause-value
returns-clause-value c =
    let r = r_value c.args.r in
    let a = value_of c.args.h % prime in
    let text : List ℕ = c.args.bytes.now in
    let k = 4 * (length text / 64) in
    let rest : List ℕ = c.split_at.result.1.now in
    let behind : rest ≡ drop (16 * k) text =
    c.split_at.ensures.back
    ∙ (let place : length text / 64 * 64 ≡ 16 * k = omega arith in ap (λ n. drop n text) place) in
    let count : k + length rest / 16 ≡ length text / 16 =
    omega (arith, ap length behind, length-drop (16 * k) text) in
    c.absorb_blocks.ensures.value
    ∙ ap (λ b. accumulator r b rest (length rest / 16)) c.absorb_in_lanes.ensures.value
    ∙ ap (λ xs. accumulator r (accumulator r a text k) xs (length rest / 16)) behind
    ∙ sym (accumulator_behind r a text k (length rest / 16)) ∙ ap (accumulator r a text) count
