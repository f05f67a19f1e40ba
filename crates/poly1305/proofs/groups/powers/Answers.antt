use Rattle.std.proofs.Common.{◌≡◌, ℕ, suc, ◌+◌, ◌-◌, ◌*◌, ◌<◌, ◌^◌, ◌%◌, ◌∙◌, ap, sym, refl, arith}
use Rattle.std.proofs.Math.Nat.{pow-succ'}
use Rattle.poly1305.specs.Poly1305.{prime}
use Rattle.poly1305.specs.Limbs.{value_of, r_value}
use Rattle.poly1305.specs.Lanes.{lane, block_of_lane}
use Rattle.poly1305.proofs.LaneLemmas.{below_four}
use Rattle.poly1305.proofs.GroupLemmas.{mod_product, powers_of}
use Rattle.poly1305.proofs.groups.powers.Goals as goal

-- the number v is a power of r
abbrev IsPower : ℕ → ℕ → ℕ → Type 0
IsPower r n v = v % prime ≡ r ^ n % prime

first_power : (r v : ℕ) → v ≡ r → IsPower r 1 v
first_power r v e = ap (λ x. x % prime) (e ∙ sym (powers_of r).first)

-- one factor more
next_power : (r n v w : ℕ) → IsPower r n v → w % prime ≡ r * v % prime → IsPower r (suc n) w
next_power r n v w power product =
    product ∙ mod_product r v r (r ^ n) refl power ∙ ap (λ x. x % prime) (sym (pow-succ' r n))

record LowPowers (r second third fourth : ℕ) : Type 0 where
  is_second : IsPower r 2 second
  is_third : IsPower r 3 third
  is_fourth : IsPower r 4 fourth

low_powers : (r v second third fourth : ℕ) → v ≡ r → second % prime ≡ r * v % prime
    → third % prime ≡ r * second % prime → fourth % prime ≡ r * third % prime → LowPowers r second third fourth
low_powers r v second third fourth e p2 p3 p4 =
    let is_second = next_power r 1 v second (first_power r v e) p2 in
    let is_third = next_power r 2 second third is_second p3 in
    record { is_second = is_second; is_third = is_third; is_fourth = next_power r 3 third fourth is_third p4 }

-- each of four lanes is its power
each_power : (r : ℕ) (n w : ℕ → ℕ) (a b c d : ℕ) → w 0 ≡ a → w 1 ≡ b → w 2 ≡ c → w 3 ≡ d
    → IsPower r (n 0) a → IsPower r (n 1) b → IsPower r (n 2) c → IsPower r (n 3) d
    → (k : ℕ) → k < 4 → IsPower r (n k) (w k)
each_power r n w a b c d ea eb ec ed pa pb pc pd =
    let m = λ (x : ℕ). x % prime in
    below_four (λ k. IsPower r (n k) (w k)) (ap m ea ∙ pa) (ap m eb ∙ pb) (ap m ec ∙ pc) (ap m ed ∙ pd)

pub products-requires-clause-h : goal.products-requires-clause-h
products-requires-clause-h c k h =
    let small = c.side_by_side-fourths.ensures.small k h in
    record { h0 = omega arith; h1 = omega arith; h2 = omega arith; h3 = omega arith; h4 = omega arith }

pub first_lane-eighth-requires : goal.first_lane-eighth-requires
first_lane-eighth-requires c = c.products.ensures.small 0 (omega arith)

pub returns : goal.returns
returns c =
    let r = r_value c.args.r in
    let v = c.args.r.r0 + 2 ^ 64 * c.args.r.r1 + 2 ^ 128 * 0 in
    let v2 = value_of c.times-second.result in
    let v3 = value_of c.times-third.result in
    let v4 = value_of c.times-fourth.result in
    let v8 = value_of c.first_lane-eighth.result in
    let same : v ≡ r = omega arith in
    let p =
    low_powers r v v2 v3 v4 same c.times-second.ensures.value c.times-third.ensures.value
    c.times-fourth.ensures.value in
    let fourths = c.side_by_side-fourths.ensures in
    let eighths = c.side_by_side.ensures in
    let last = c.side_by_side-2.ensures in
    let lane4 = lane c.side_by_side-fourths.result in
    let is_fourth = each_power r (λ _. 4) lane4 v4 v4 v4 v4
    fourths.lane_0 fourths.lane_1 fourths.lane_2 fourths.lane_3 p.is_fourth p.is_fourth p.is_fourth p.is_fourth in
    let first = is_fourth 0 (omega arith) in
    let is_eighth : IsPower r 8 v8 =
    c.first_lane-eighth.ensures.value ∙ c.products.ensures.value 0 (omega arith)
    ∙ mod_product (lane4 0) (lane4 0) (r ^ 4) (r ^ 4) first first ∙ ap (λ x. x % prime) (sym (powers_of r).eighth) in
    record {
      fourth = is_fourth;
      eighth = each_power r (λ _. 8) (lane c.side_by_side.result) v8 v8 v8 v8
          eighths.lane_0 eighths.lane_1 eighths.lane_2 eighths.lane_3 is_eighth is_eighth is_eighth is_eighth;
      last = each_power r (λ k. 4 - block_of_lane k) (lane c.side_by_side-2.result) v4 v2 v3 v
          last.lane_0 last.lane_1 last.lane_2 last.lane_3 p.is_fourth p.is_second p.is_third (first_power r v same);
    }
