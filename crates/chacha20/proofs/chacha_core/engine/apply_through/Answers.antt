use Rattle.std.proofs.Common.{◌≡◌, ℕ, List, min, ◌<◌, ◌≤◌, ◌*◌, ◌+◌, ◌-◌, ◌/◌, ◌%◌, ◌∙◌, length, take, sym, refl, arith, mul-add, mod-lt, length-take-le}
use Rattle.std.proofs.Math.Nat.{mul-div-le, div-add-mod, mod-le}
use Rattle.std.proofs.lemmas.Nat.{column_fits}
use Rattle.chacha_base.specs.State.{state_counter}
use Rattle.chacha_base.proofs.CountsLemmas.{grows-none, grows-group, grows-blocks}
use Rattle.chacha_base.proofs.StateLemmas.{state_after-zero}
use Rattle.chacha_base.proofs.KeystreamLemmas.{xor_stream-whole}
use Rattle.chacha20.specs.Blocks.{state_stream}
use Rattle.chacha20.proofs.BlocksLemmas.{at-more}
use Rattle.chacha20.proofs.chacha_core.engine.apply_through.Goals as goal

-- of n bytes the l blocks from block i to block e, and the part of the scratch space for them
record Next (i l e n : ℕ) (scratch : List (List ℕ)) : Type 0 where
  long : length (take l scratch) ≡ l
  all : i + l ≡ e
  inside : 64 * e ≤ n

-- those of group k, and those behind the last group; the scratch space holds a group, or else all blocks
group : {w b r : ℕ} (k n : ℕ) (scratch : List (List ℕ)) → w ≡ b → length scratch ≡ r → min b (n / 64) ≤ r → k < n / 64 /
    w
    → Next (w * k) w (w * (k + 1)) n scratch
group {w} k n scratch same kept fits less =
    let end = column_fits w k w (n / 64 / w) less (omega arith) in
    record {
      long = length-take-le w scratch (omega (arith, end, mul-div-le (n / 64) w));
      all = omega (arith, mul-add w k 1);
      inside = omega (arith, end, mul-add w k 1, mul-div-le (n / 64) w);
    }

rest : {w b r : ℕ} (n : ℕ) (scratch : List (List ℕ)) → w ≡ b → 1 ≤ b → length scratch ≡ r → min b (n / 64) ≤ r
    → Next (n / 64 - n / 64 % w) (n / 64 % w) (n / 64) n scratch
rest {w} n scratch same some kept fits =
    let one : 1 ≤ w = omega arith in
    record {
      long = length-take-le (n / 64 % w) scratch (omega (arith, mod-lt (n / 64) one, mod-le (n / 64) w));
      all = omega (arith, mod-le (n / 64) w);
      inside = omega (arith, mul-div-le n 64);
    }

pub groups-init : goal.groups-init
groups-init g c =
    let none : c.PAR_BLOCKS-width.result * 0 ≡ 0 = omega arith in
    let free : 0 * (g.B.StreamCipherBackend.PAR_STEPS * g.R.Rounds.COUNT) ≡ 0 = omega arith in
    let same = sym (state_after-zero g.V.Variant.layout _ c.told-state c.fits-state) in
    let long = g.met.T.Target.long _ _ c.requires.input in
    rw (none, free) record {
      engine = record { sixteen = c.told-state; before = long; long = long; state = same; bytes = refl };
      steps = grows-none _;
    }

pub slice_bounds-made-end-in-groups : goal.slice_bounds-made-end-in-groups
slice_bounds-made-end-in-groups g c =
    sym (group c.groups.group (length c.args.data.now) c.groups.scratch c.PAR_BLOCKS-width.ensures c.groups.auto.scratch
    c.requires.scratch c.groups-test.true).long

pub gen_par_ks_blocks-requires : goal.gen_par_ks_blocks-requires
gen_par_ks_blocks-requires g c =
    (group c.groups.group (length c.args.data.now) c.groups.scratch c.PAR_BLOCKS-width.ensures c.groups.auto.scratch
    c.requires.scratch c.groups-test.true).long ∙ c.PAR_BLOCKS-width.ensures

pub xor_blocks-requires-clause-inside : goal.xor_blocks-requires-clause-inside
xor_blocks-requires-clause-inside g c =
    let next = group c.groups.group (length c.args.data.now) c.groups.scratch c.PAR_BLOCKS-width.ensures
    c.groups.auto.scratch
    c.requires.scratch c.groups-test.true in
    rw (c.groups.auto.data, c.gen_par_ks_blocks.auto.blocks, next.long, next.all) next.inside

pub groups-preserved : goal.groups-preserved
groups-preserved g c =
    let next = group c.groups.group (length c.args.data.now) c.groups.scratch c.PAR_BLOCKS-width.ensures
    c.groups.auto.scratch
    c.requires.scratch c.groups-test.true in
    let made = c.gen_par_ks_blocks.ensures in
    let so_far = g.T.Target.so_far c.args.input.now in
    record {
      engine = at-more c.gen_par_ks_blocks.new.blocks c.groups.invariant.engine c.gen_par_ks_blocks.auto.blocks
          made.blocks made.state (so_far c.xor_blocks.new.data)
          c.xor_blocks.ensures (rw next.long next.all) next.inside;
      steps = grows-group c.groups.invariant.steps made.steps;
    }

pub slice_bounds-made-end-3 : goal.slice_bounds-made-end-3
slice_bounds-made-end-3 g c =
    sym (rest (length c.args.data.now) c.groups.scratch c.PAR_BLOCKS-width.ensures
    g.B.ParBlocksSizeUser.par_blocks_at_least c.groups.auto.scratch c.requires.scratch).long

pub gen_tail-requires : goal.gen_tail-requires
gen_tail-requires g c =
    let next = rest (length c.args.data.now) c.groups.scratch c.PAR_BLOCKS-width.ensures
    g.B.ParBlocksSizeUser.par_blocks_at_least c.groups.auto.scratch c.requires.scratch in
    rw (next.long, c.PAR_BLOCKS-width.ensures) (mod-lt _ g.B.ParBlocksSizeUser.par_blocks_at_least)

pub xor_blocks-requires-2-clause-inside : goal.xor_blocks-requires-2-clause-inside
xor_blocks-requires-2-clause-inside g c =
    let next = rest (length c.args.data.now) c.groups.scratch c.PAR_BLOCKS-width.ensures
    g.B.ParBlocksSizeUser.par_blocks_at_least c.groups.auto.scratch c.requires.scratch in
    rw (c.groups.auto.data, c.gen_tail.auto.blocks, next.long, next.all) next.inside

pub returns : goal.returns
returns g c =
    let s = c.args.state.now in
    let input = c.args.input.now in
    let old = c.args.data.now in
    let m = length old / 64 in
    let w = c.PAR_BLOCKS-width.result in
    let next = rest (length old) c.groups.scratch c.PAR_BLOCKS-width.ensures g.B.ParBlocksSizeUser.par_blocks_at_least
    c.groups.auto.scratch c.requires.scratch in
    let made = c.gen_tail.ensures in
    let all : c.groups.group ≡ m / w = omega (arith, c.groups-test.false, c.groups.auto.group-end) in
    let begins : w * (m / w) ≡ m - m % w = omega (arith, div-add-mod m w) in
    let now = c.xor_blocks-2.new.data in
    let end = at-more c.gen_tail.new.blocks (rw (all, begins) at c.groups.invariant.engine)
    c.gen_tail.auto.blocks made.blocks made.state (g.T.Target.so_far input now) c.xor_blocks-2.ensures
    (rw next.long next.all) next.inside in
    let whole : 64 * m ≡ length now = omega arith in
    let fits : g.T.Target.fits (length input) (length now) =
    rw (c.xor_blocks-2.auto.data, c.groups.auto.data) c.requires.input in
    record {
      «data» = sym (g.met.T.Target.at_end input now fits) ∙ (rw whole at end.bytes)
          ∙ xor_stream-whole (state_stream g.R.Rounds.COUNT g.V.Variant.layout s)
          (64 * state_counter g.V.Variant.layout s) (length now) (g.T.Target.so_far input old 0)
          (omega (arith, end.before));
      state = end.state;
      steps = rw (← c.PAR_BLOCKS-width.ensures) (grows-blocks w _ _ m (rw all at c.groups.invariant.steps)
          (rw next.long at made.steps));
    }
