use Rattle.std.proofs.Common.{◌≡◌, ◌∙◌, ◌-◌, [], IsOk, arith, length, take, drop, sym, ap, take_at, drop_at, length-take-le, true≢false}
use Rattle.std.proofs.lemmas.List.{take-append-drop, take_rest}
use Rattle.chacha20.specs.XChaCha.{xchacha_stream}
use Rattle.chacha20.proofs.StdLemmas.{on_ok-holds}
use Rattle.chacha20poly1305.specs.Aead.{encrypted, poly1305_tag}
use Rattle.chacha20poly1305.proofs.AeadLemmas.{sealed_message-parts}
use Rattle.sealed_file.specs.Sealed.{chunk}
use Rattle.sealed_file.proofs.ChunkLemmas.{chunk-is, chunk-tag, length-chunk}
use Rattle.sealed_file.proofs.chunk.open_chunk.Goals.{then-number-eq0, else-number-eq0}
use Rattle.sealed_file.proofs.chunk.open_chunk.Goals as goal

pub returns-then-bytes-least-clause-wrong : goal.returns-then-bytes-least-clause-wrong
returns-then-bytes-least-clause-wrong c refused text some same =
    let long = ap length same ∙ length-chunk c.args.key.now c.args.salt.now c.args.number c.args.last text in
    elim c.if-number-eq0.branch [
      | then-number-eq0 w ↦ omega (arith, w.least-is, c.if-bytes-least.true, long)
      | else-number-eq0 w ↦ omega (
        arith,
        w.least-is,
        c.if-bytes-least.true,
        long,
        some (omega
            (arith, w.if-number-eq0.false)),
      )
    ]

pub returns-clause-right : goal.returns-clause-right
returns-clause-right c opened =
    let bytes = c.args.bytes.now in
    let end = length bytes - 16 in
    let text = c.decrypt_in_place_detached.new.message in
    let nonce = c.chunk_nonce-nonce.result in
    let stream = xchacha_stream 10 c.args.key.now nonce in
    let answer = c.decrypt_in_place_detached.ensures in
    let accepted : IsOk c.decrypt_in_place_detached.result = sym c.is_ok.ensures.value ∙ opened in
    let right : drop end bytes ≡ poly1305_tag stream [] (take end bytes) =
    sym (c.copy_from_slice.ensures.after ∙ take_rest bytes end)
    ∙ ((rw c.new-cipher.ensures at answer.accepted).0 accepted).1 in
    let plain : text ≡ encrypted stream (take end bytes) =
    on_ok-holds c.decrypt_in_place_detached.result accepted (rw c.new-cipher.ensures at answer.text) in
    sym (take-append-drop end bytes)
    ∙ sealed_message-parts stream [] (take end bytes) (drop end bytes) text right plain
    ∙ chunk-is c.args.key.now c.args.salt.now c.args.number c.args.last text nonce c.chunk_nonce-nonce.ensures.value
    ∙ ap (chunk c.args.key.now c.args.salt.now c.args.number c.args.last)
    (sym (take_at text (drop end bytes) end
    (c.decrypt_in_place_detached.auto.message ∙ length-take-le end bytes (omega arith))))

pub returns-clause-wrong : goal.returns-clause-wrong
returns-clause-wrong c refused text some same =
    let tag = chunk-tag c.args.key.now c.args.salt.now c.args.number c.args.last text c.chunk_nonce-nonce.result
    c.args.bytes.now c.chunk_nonce-nonce.ensures.value same in
    let end = length c.args.bytes.now - 16 in
    let size = length-take-le end c.args.bytes.now (omega arith) in
    let accepted : IsOk c.decrypt_in_place_detached.result =
    (rw c.new-cipher.ensures at c.decrypt_in_place_detached.ensures.accepted).1 (
      omega (arith, size, c.requires.size),
      c.copy_from_slice.ensures.after
          ∙ take_rest c.args.bytes.now end ∙ tag,
    ) in
    true≢false (sym accepted ∙ sym c.is_ok.ensures.value ∙ refused)

pub returns-clause-tag : goal.returns-clause-tag
returns-clause-tag c =
    let bytes = c.args.bytes.now in
    let end = length bytes - 16 in
    drop_at c.decrypt_in_place_detached.new.message (drop end bytes) end
    (c.decrypt_in_place_detached.auto.message ∙ length-take-le end bytes (omega arith))
