use Rattle.std.proofs.Common.{◌≡◌, ℕ, ap, ◌+◌, ◌-◌, ◌≤◌, length, take, take_all, arith, refl, replicate, sym, subst, ◌∙◌}
use Rattle.std.proofs.lemmas.List.{take-replicate, length-replicate}
use Rattle.chacha_base.specs.ChaCha.{keystream, stream_part}
use Rattle.chacha_base.proofs.CipherLemmas.{moved_on}
use Rattle.chacha_base.proofs.KeystreamLemmas.{xor_stream-zeros}
use Rattle.chacha_base.proofs.PieceLemmas.{stream_part-written, piece-within, piece-long}
use Rattle.chacha_base.proofs.cipher.ciphers.StreamCipher.try_write_keystream.Goals as goal

pub pieces-preserved : goal.pieces-preserved
pieces-preserved g c =
    let cipher = g.Self.Keystream in
    let old = c.args.self.now in
    let stream = keystream cipher.modulus (cipher.block_at (cipher.fixed old)) in
    let p = cipher.position old in
    let done = c.pieces.done in
    let n = c.min.result in
    let before = c.pieces.invariant in
    let front : done ≤ length c.pieces.buf = subst (λ m. done ≤ m) (sym c.pieces.auto.buf) before.within in
    let inside = piece-within _ (length c.pieces.buf) done n c.min.ensures front in
    let cut : done + n - done ≡ n = omega arith in
    let zeros : take (done + n - done) (replicate {A = ℕ} 4096 0) ≡ replicate n 0 =
    rw cut (take-replicate n 4096 0 (omega arith)) in
    let size : length (take (done + n - done) (replicate {A = ℕ} 4096 0)) ≡ n =
    ap length zeros ∙ length-replicate n 0 in
    record {
      within = subst (λ m. done + n ≤ m) c.pieces.auto.buf inside;
      fixed = c.apply_keystream_b2b.ensures.fixed ∙ before.fixed;
      position = moved_on _ _ p done n _ before.position size c.apply_keystream_b2b.ensures.position;
      bytes = stream_part-written stream p done n _ _ _ front
          (c.apply_keystream_b2b.auto.output ∙ piece-long done n c.pieces.buf inside) before.bytes
          (rw (before.fixed, before.position, zeros, xor_stream-zeros) at c.apply_keystream_b2b.ensures.bytes);
    }

-- answered for speed, as the next ones
pub returns-clause-accepted : goal.returns-clause-accepted
returns-clause-accepted g c = (λ ok. c.in_default.ensures.accepted.0 refl, λ fits. refl)

pub returns-clause-bytes : goal.returns-clause-bytes
returns-clause-bytes g c =
    let cipher = g.Self.Keystream in
    let old = c.args.self.now in
    let all : c.pieces.done ≡ length c.args.buf.now = omega (arith, c.pieces.invariant.within) in
    sym (take_all c.pieces.done c.pieces.buf (omega arith)) ∙ c.pieces.invariant.bytes
    ∙ ap (stream_part (keystream cipher.modulus (cipher.block_at (cipher.fixed old))) (cipher.position old)) all

pub returns-clause-position : goal.returns-clause-position
returns-clause-position g c = omega (arith, c.pieces.invariant.within, c.pieces.invariant.position)
