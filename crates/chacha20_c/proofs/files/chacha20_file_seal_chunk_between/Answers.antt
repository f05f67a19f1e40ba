use Rattle.chacha20_c.proofs.ChunkLemmas.{made-chunk}
use Rattle.chacha20_c.proofs.files.chacha20_file_seal_chunk_between.Goals as goal

pub returns-clause-sealed : goal.returns-clause-sealed
returns-clause-sealed c ok =
    made-chunk c.args.key.now c.args.salt.now c.args.last c.chunk_nonce-nonce.ensures.value c.from.ensures
    c.xchacha20_aead_encrypt_between-answer.new.output c.args.input.now c.copy_from_slice.ensures.after
    (c.xchacha20_aead_encrypt_between-answer.ensures.sealed ok)
