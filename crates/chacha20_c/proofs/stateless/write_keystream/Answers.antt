use Rattle.std.proofs.Common.{◌≡◌, ℕ, ◌+◌, ◌-◌, ◌≤◌, ◌++◌, length, arith, inl, sym, ap, ap₂, subst, ◌∙◌}
use Rattle.chacha20.specs.ChaCha.{keystream, stream_part}
use Rattle.chacha20.specs.Cipher.{limit_of}
use Rattle.chacha20.proofs.KeystreamLemmas.{stream_part-add}
use Rattle.chacha20_c.proofs.stateless.write_keystream.Goals as goal

subtracted : {a c : ℕ} (b : ℕ) → a + b ≡ c → a ≡ c - b
subtracted b sum = omega arith

pub returns : goal.returns
returns g c =
    let stream = keystream g.K.Keystream.modulus (g.K.KeyIvInit.blocks_of c.args.key.now c.args.nonce.now) in
    let p = c.args.position in
    let len = length c.args.output.now in
    let whole = c.grouped-whole.result in
    let room : p + len ≤ limit_of g.K.Keystream.modulus =
    subst (λ m. p + len ≤ m) c.limit.ensures (c.check.ensures.accepted.0 c.if-check-ne0.false) in
    let front = c.split_at_mut-groups.ensures.front_len in
    let back = subtracted _ c.split_at_mut-groups.ensures.back_len in
    let sum : whole + (len - whole) ≡ len = omega (arith, c.grouped-whole.ensures.within) in
    let good : c.write_rest.result ≡ 0 =
    c.write_rest.ensures.accepted.1 (omega (arith, back, room, c.grouped-whole.ensures.within)) in
    record {
      accepted = (λ zero. room, λ fits. good);
      bytes = λ zero.
          ap₂ ◌++◌ (c.write_groups.ensures ∙ ap (stream_part stream p) front)
          (c.write_rest.ensures.bytes good ∙ ap (stream_part stream (p + whole)) back)
          ∙ sym (stream_part-add stream p whole (len - whole)) ∙ ap (stream_part stream p) sum;
      refused = inl good;
    }
