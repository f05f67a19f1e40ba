use Rattle.std.proofs.Common.{◌∙◌, ap}
use Rattle.sealed_file.specs.Sealed.{chunk}
use Rattle.chacha20_c.proofs.ChunkLemmas.{made-chunk}
use Rattle.chacha20_c.proofs.files.chacha20_file_seal_chunk_in_place.Goals as goal

pub returns-clause-sealed : goal.returns-clause-sealed
returns-clause-sealed c ok =
    let key = c.args.key.now in
    let salt = c.args.salt.now in
    made-chunk key salt c.args.last c.chunk_nonce-nonce.ensures.value c.from.ensures
    c.xchacha20_aead_encrypt_in_place-answer.new.data c.split_at_mut-text.result.0.now
    c.copy_from_slice.ensures.after (c.xchacha20_aead_encrypt_in_place-answer.ensures.sealed ok)
    ∙ ap (chunk key salt c.args.number c.args.last) c.split_at_mut-text.ensures.front
