use Rattle.std.proofs.Common.{◌≡◌, ◌+◌, ◌-◌, ◌≤◌, length, take, drop, arith, sym, ap, ◌∙◌}
use Rattle.std.proofs.Math.Seq.{take-length}
use Rattle.chacha20.specs.ChaCha.{keystream, xor_stream}
use Rattle.chacha20.proofs.CipherLemmas.{moved_on}
use Rattle.chacha20.proofs.PieceLemmas.{xor_stream-written, rest-written, piece-long}
use Rattle.examples.proofs.pieces.apply_in_pieces.Goals as goal

pub pieces-preserved : goal.pieces-preserved
pieces-preserved g c =
    let cipher = g.C.Keystream in
    let old = c.args.cipher.now in
    let stream = keystream cipher.modulus (cipher.block_at (cipher.fixed old)) in
    let whole = c.args.bytes.now in
    let p = cipher.position old in
    let done = c.pieces.done in
    let n = c.min.result in
    let before = c.pieces.invariant in
    let inside : done + n ≤ length c.pieces.bytes = omega arith in
    let taken : length (take (done + n - done) (drop done c.pieces.bytes)) ≡ n =
    piece-long done n c.pieces.bytes inside in
    let size : length c.apply_keystream.new.buf ≡ n = c.apply_keystream.auto.buf ∙ taken in
    record {
      within = omega arith;
      fixed = c.apply_keystream.ensures.fixed ∙ before.fixed;
      position = moved_on _ _ p done n _ before.position taken c.apply_keystream.ensures.position;
      bytes = xor_stream-written stream p done n _ whole c.pieces.bytes _ (omega arith) (omega arith) size before.bytes
          (rw (before.fixed, before.position, before.rest) at c.apply_keystream.ensures.bytes);
      rest = rest-written done n _ whole c.pieces.bytes _ (omega arith) (omega arith) (omega (arith, size)) before.rest;
    }

pub returns-clause-bytes : goal.returns-clause-bytes
returns-clause-bytes g c =
    let cipher = g.C.Keystream in
    let old = c.args.cipher.now in
    let whole = c.args.bytes.now in
    let stream = keystream cipher.modulus (cipher.block_at (cipher.fixed old)) in
    let output_done : c.pieces.done ≡ length c.pieces.bytes = omega arith in
    let input_done : c.pieces.done ≡ length whole = omega arith in
    sym (ap (λ n. take n c.pieces.bytes) output_done ∙ take-length c.pieces.bytes)
    ∙ c.pieces.invariant.bytes
    ∙ ap (xor_stream stream (cipher.position old)) (ap (λ n. take n whole) input_done ∙ take-length whole)

pub returns-clause-position : goal.returns-clause-position
returns-clause-position g c = omega (arith, c.pieces.invariant.position)
