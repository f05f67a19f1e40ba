use Rattle.std.proofs.Common.{◌≡◌, ◌∙◌, ◌++◌, [], ap, ap₂}
use Rattle.chacha20.specs.XChaCha.{xchacha_stream}
use Rattle.chacha20poly1305.specs.Aead.{encrypted, poly1305_tag}
use Rattle.sealed_file.specs.Sealed.{chunk}
use Rattle.sealed_file.proofs.ChunkLemmas.{chunk-is}
use Rattle.sealed_file.proofs.chunk.seal_chunk.Goals as goal

pub returns : goal.returns
returns c =
    let key = c.args.key.now in
    let bytes = c.args.bytes.now in
    let text = c.split_at_mut-text.result.0.now in
    let nonce = c.chunk_nonce-nonce.result in
    let stream = xchacha_stream 10 key nonce in
    let ciphertext = c.encrypt_in_place_detached.new.message in
    let encrypts : ciphertext ≡ encrypted stream text =
    rw (c.unwrap-tag.ensures, c.new-cipher.ensures) at c.encrypt_in_place_detached.ensures.ciphertext in
    let tags : c.unwrap-tag.result ≡ poly1305_tag stream [] ciphertext =
    rw (c.unwrap-tag.ensures, c.new-cipher.ensures) at c.encrypt_in_place_detached.ensures.tag in
    ap₂ ◌++◌ encrypts (c.copy_from_slice.ensures.after ∙ tags ∙ ap (poly1305_tag stream []) encrypts)
    ∙ chunk-is key c.args.salt.now c.args.number c.args.last text nonce c.chunk_nonce-nonce.ensures.value
    ∙ ap (chunk key c.args.salt.now c.args.number c.args.last) c.split_at_mut-text.ensures.front
