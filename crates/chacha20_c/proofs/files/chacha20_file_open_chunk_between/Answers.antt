use Rattle.std.proofs.Common.{length, arith}
use Rattle.chacha20_c.proofs.ChunkLemmas.{text-fits, opened-chunk, right-tag}
use Rattle.chacha20_c.proofs.files.chacha20_file_open_chunk_between.Goals as goal

pub returns-clause-opened : goal.returns-clause-opened
returns-clause-opened c ok =
    let split = c.split_at in
    opened-chunk c.args.key.now c.args.salt.now c.args.last c.chunk_nonce-nonce.ensures.value c.from.ensures
    c.args.input.now split.result.0.now (length c.args.output.now) split.ensures.front split.ensures.back
    c.copy_from_slice.ensures.after c.xchacha20_aead_decrypt_between.new.output
    (c.xchacha20_aead_decrypt_between.ensures.opened ok)

pub returns-clause-accepted : goal.returns-clause-accepted
returns-clause-accepted c =
    let is = c.is_text_length.ensures.0 c.if-not-is_text_length.false in
    let split = c.split_at in (
      λ ok. (
        c.if-input-output.false,
        is,
        (c.xchacha20_aead_decrypt_between.new.output, returns-clause-opened c ok),
      ),
      λ sent. c.xchacha20_aead_decrypt_between.ensures.accepted.1 (
        split.ensures.front_len,
        omega (arith, split.ensures.front_len, text-fits c.args.number c.args.last (length c.args.output.now) is),
        right-tag c.args.key.now c.args.salt.now c.args.last c.chunk_nonce-nonce.ensures.value c.from.ensures
            c.args.input.now split.result.0.now (length c.args.output.now) split.ensures.front split.ensures.back
            c.copy_from_slice.ensures.after sent.2.0 (omega (arith, sent.0)) sent.2.1,
      ),
    )

pub returns-clause-wrong : goal.returns-clause-wrong
returns-clause-wrong c =
    let is = c.is_text_length.ensures.0 c.if-not-is_text_length.false in
    let answer = c.xchacha20_aead_decrypt_between.ensures in (
      λ two. (
        c.if-input-output.false,
        is,
        λ sent. (answer.wrong.0 two).2 (answer.accepted.0 ((returns-clause-accepted c).1
            (c.if-input-output.false, is, sent))).2,
      ),
      λ none. answer.wrong.1 (
        c.split_at.ensures.front_len,
        omega
            (arith, c.split_at.ensures.front_len, text-fits c.args.number c.args.last (length c.args.output.now) is),
        λ right. none.2 ((returns-clause-accepted c).0 (answer.accepted.1 (
          c.split_at.ensures.front_len,
          omega (
            arith,
            c.split_at.ensures.front_len,
            text-fits c.args.number c.args.last (length c.args.output.now) is,
          ),
          right,
        ))).2,
      ),
    )
