use Rattle.std.proofs.Common.{◌≡◌, ◌*◌, ◌+◌, ◌<◌, ◌≤◌, length, take_all, arith, sym, ap, ◌∙◌}
use Rattle.std.proofs.lemmas.Option.{get_or_from_slice_get}
use Rattle.chacha20.specs.ChaCha.{keystream, stream_part}
use Rattle.chacha20.proofs.PieceLemmas.{stream_part-written, piece-long}
use Rattle.chacha20_c.proofs.GroupLemmas.{block-part}
use Rattle.chacha20_c.proofs.stateless.write_group.Goals as goal

pub copies-preserved : goal.copies-preserved
copies-preserved g c =
    let core = g.C.Keystream in
    let old = c.args.core.now in
    let block = core.block_at (core.fixed old) in
    let stream = keystream core.modulus block in
    let k = g.C.StreamCipherCore.counter old in
    let i = c.copies.i in
    let less : i < 16 = c.copies-test.true in
    let all : length c.copies.group ≡ 1024 = c.copies.auto.group ∙ c.requires in
    let inside : 64 * i + 64 ≤ length c.copies.group = omega (arith, all, less) in
    let front : 64 * i ≤ length c.copies.group = omega (arith, inside) in
    let size = c.copy_from_slice.ensures.len ∙ piece-long (64 * i) 64 c.copies.group inside in
    let there : i < length c.args.made.now = omega (arith, c.told-made, less) in
    let is = c.copy_from_slice.ensures.after
    ∙ get_or_from_slice_get _ i _ _ (c.write_keystream_blocks.ensures.blocks i there) in
    let place : 64 * (k + i) ≡ 64 * k + 64 * i = omega arith in
    let next : 64 * (i + 1) ≡ 64 * i + 64 = omega arith in
    record {
      within = omega (arith, less);
      bytes = rw next (stream_part-written stream (64 * k) (64 * i) 64 _ _ _ front size c.copies.invariant.bytes
          (block-part core.modulus block (k + i) _ size is ∙ ap (λ p. stream_part stream p 64) place));
    }

pub returns-clause-bytes : goal.returns-clause-bytes
returns-clause-bytes g c =
    let core = g.C.Keystream in
    let old = c.args.core.now in
    let stream = keystream core.modulus (core.block_at (core.fixed old)) in
    let k = g.C.StreamCipherCore.counter old in
    let end : 64 * c.copies.i ≡ 1024 = omega (arith, c.copies-test.false, c.copies.invariant.within) in
    let all : length c.copies.group ≡ 1024 = c.copies.auto.group ∙ c.requires in
    sym (take_all (64 * c.copies.i) c.copies.group (omega (arith, end, all))) ∙ c.copies.invariant.bytes
    ∙ ap (stream_part stream (64 * k)) end
