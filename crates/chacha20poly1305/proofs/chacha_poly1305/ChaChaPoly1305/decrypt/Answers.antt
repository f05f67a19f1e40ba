use Rattle.std.proofs.Common.{◌≡◌, ◌∙◌, ap, arith, length, sym, take}
use Rattle.chacha20.specs.ChaCha.{keystream}
use Rattle.chacha20poly1305.specs.Aead.{poly1305_tag}
use Rattle.chacha20poly1305.proofs.AeadLemmas.{length-sealed_message, tag-sealed_message, take-sealed_message}
use Rattle.chacha20poly1305.proofs.chacha_poly1305.ChaChaPoly1305.decrypt.Goals as goal

pub returns-clause-decrypted : goal.returns-clause-decrypted
returns-clause-decrypted g c text same =
    let stream = keystream g.C.Keystream.modulus (g.C.KeyIvInit.blocks_of c.args.self.now c.args.nonce.now) in
    let n = length c.args.output.now in
    let size : length text ≡ n =
    omega (arith, c.requires, ap length same, length-sealed_message stream c.args.aad.now text) in
    c.decrypt_detached.ensures.decrypted text
    (c.split_at.ensures.front ∙ ap (take n) same ∙ take-sealed_message stream c.args.aad.now text n size)

pub returns-clause-opens : goal.returns-clause-opens
returns-clause-opens g c text same =
    let stream = keystream g.C.Keystream.modulus (g.C.KeyIvInit.blocks_of c.args.self.now c.args.nonce.now) in
    let aad = c.args.aad.now in
    let n = length c.args.output.now in
    let parts = c.split_at.ensures in
    let size : length text ≡ n =
    omega (arith, c.requires, ap length same, length-sealed_message stream aad text) in
    let accepted = c.decrypt_detached.ensures.accepted in
    let tag = c.copy_from_slice.ensures.after ∙ parts.back ∙ tag-sealed_message stream aad text n _ same size
    ∙ sym (ap (poly1305_tag stream aad) parts.front) in (
      λ ok. let fits = (accepted.0 ok).0 in omega (arith, fits, size, parts.front_len),
      λ fits. accepted.1 (omega (arith, fits, size, parts.front_len), tag),
    )

pub returns-clause-text : goal.returns-clause-text
returns-clause-text g c = rw (c.split_at.ensures.front) at c.decrypt_detached.ensures.text

-- answered for speed
pub returns-clause-refused : goal.returns-clause-refused
returns-clause-refused g c = c.decrypt_detached.ensures.refused
