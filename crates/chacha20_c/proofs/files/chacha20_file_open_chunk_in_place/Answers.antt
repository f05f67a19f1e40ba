use Rattle.std.proofs.Common.{◌-◌, ◌∙◌, length, arith, refl, sym, ap, take_at}
use Rattle.sealed_file.specs.Sealed.{chunk}
use Rattle.chacha20_c.proofs.ChunkLemmas.{text-fits, opened-chunk, right-tag}
use Rattle.chacha20_c.proofs.files.chacha20_file_open_chunk_in_place.Goals as goal

pub returns-clause-opened : goal.returns-clause-opened
returns-clause-opened c ok =
    let key = c.args.key.now in
    let salt = c.args.salt.now in
    let split = c.split_at_mut-text in
    let text = c.xchacha20_aead_decrypt_in_place.new.data in
    let end = length c.args.data.now - 16 in
    opened-chunk key salt c.args.last c.chunk_nonce-nonce.ensures.value c.from.ensures c.args.data.now
    split.result.0.now end split.ensures.front split.ensures.back c.copy_from_slice.ensures.after text
    (c.xchacha20_aead_decrypt_in_place.ensures.opened ok)
    ∙ ap (chunk key salt c.args.number c.args.last)
    (sym (take_at text split.result.1.now end (c.xchacha20_aead_decrypt_in_place.auto.data ∙ split.ensures.front_len)))

pub returns-clause-accepted : goal.returns-clause-accepted
returns-clause-accepted c =
    let is = c.is_text_length.ensures.0 c.if-not-is_text_length.false in
    let split = c.split_at_mut-text in
    let end = length c.args.data.now - 16 in (
      λ ok. (c.if-data-lt-TAG.false, is, (_, returns-clause-opened c ok)),
      λ sent. c.xchacha20_aead_decrypt_in_place.ensures.accepted.1 (
        omega (arith, split.ensures.front_len, text-fits c.args.number c.args.last end is),
        right-tag c.args.key.now c.args.salt.now c.args.last c.chunk_nonce-nonce.ensures.value c.from.ensures
            c.args.data.now split.result.0.now end split.ensures.front split.ensures.back
            c.copy_from_slice.ensures.after sent.2.0 refl sent.2.1,
      ),
    )

pub returns-clause-wrong : goal.returns-clause-wrong
returns-clause-wrong c =
    let is = c.is_text_length.ensures.0 c.if-not-is_text_length.false in
    let answer = c.xchacha20_aead_decrypt_in_place.ensures in
    let accepted = returns-clause-accepted c in (
      λ two. (
        c.if-data-lt-TAG.false,
        is,
        λ sent. (answer.wrong.0 two).1 (answer.accepted.0 (accepted.1 (c.if-data-lt-TAG.false, is, sent))).1,
      ),
      λ none. answer.wrong.1 (
        omega (
          arith,
          c.split_at_mut-text.ensures.front_len,
          text-fits c.args.number c.args.last (length c.args.data.now - 16) is,
        ),
        λ right. none.2 (accepted.0 (answer.accepted.1 (
          omega (
            arith,
            c.split_at_mut-text.ensures.front_len,
            text-fits c.args.number c.args.last (length c.args.data.now - 16) is,
          ),
          right,
        ))).2,
      ),
    )
