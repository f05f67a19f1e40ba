use Rattle.std.proofs.Common.{◌≡◌, ap, ◌+◌, ◌*◌, ◌/◌, ◌%◌, ◌<◌, ◌≤◌, length, arith, refl, subst, ◌∙◌}
use Rattle.std.proofs.Math.Nat.{mod-add-mod}
use Rattle.chacha20.specs.ChaCha.{keystream, stream_part}
use Rattle.chacha20.proofs.PieceLemmas.{stream_part-written, piece-long}
use Rattle.chacha20_c.proofs.GroupLemmas.{part-same}
use Rattle.chacha20_c.proofs.stateless.write_blocks.Goals as goal

pub parts-init : goal.parts-init
parts-init g c = record {
  within = omega arith;
  whole = refl;
  fixed = refl;
  counter = λ i. ap (λ k. (k + i) % g.C.Keystream.modulus) (omega arith);
  bytes = refl;
}

pub parts-preserved : goal.parts-preserved
parts-preserved g c =
    let core = g.C.Keystream in
    let first = g.C.StreamCipherCore.counter c.args.core.now in
    let k = g.C.StreamCipherCore.counter c.parts.core in
    let block = core.block_at (core.fixed c.args.core.now) in
    let stream = keystream core.modulus block in
    let done = c.parts.done in
    let before = c.parts.invariant in
    let same : length c.parts.groups ≡ length c.args.groups.now = c.parts.auto.groups in
    let less : done < length c.parts.groups = c.parts-test.true in
    let inside : done + 1024 ≤ length c.parts.groups = omega (arith, less, same, c.requires, before.whole) in
    let front : done ≤ length c.parts.groups = omega (arith, less) in
    let place : 64 * first + done ≡ 64 * (first + done / 64) = omega (arith, before.whole) in
    let size = c.write_group.auto.group ∙ piece-long done 1024 c.parts.groups inside in
    let made = c.write_group.ensures.bytes
    ∙ ap (λ fixed. stream_part (keystream core.modulus (core.block_at fixed)) (64 * k) 1024) before.fixed
    ∙ part-same core.modulus block k (first + done / 64) (64 * first + done) 1024 place before.counter in
    record {
      within = subst (λ m. done + 1024 ≤ m) same inside;
      whole = omega (arith, before.whole);
      fixed = c.write_group.ensures.fixed ∙ before.fixed;
      counter = λ i.
          let here : k + 16 + i ≡ k + (16 + i) = omega arith in
          let there : first + done / 64 + (16 + i) ≡ first + (done + 1024) / 64 + i = omega arith in
          ap (λ n. (n + i) % core.modulus) c.write_group.ensures.counter ∙ mod-add-mod (k + 16) core.modulus i
          ∙ ap (λ n. n % core.modulus) here ∙ before.counter (16 + i) ∙ ap (λ n. n % core.modulus) there;
      bytes = stream_part-written stream (64 * first) done 1024 _ _ _ front size before.bytes made;
    }
