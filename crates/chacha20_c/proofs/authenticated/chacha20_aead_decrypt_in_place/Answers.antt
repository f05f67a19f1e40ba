use Rattle.std.proofs.Common.{refl}
use Rattle.chacha20.specs.ChaCha.{chacha_stream, ietf}
use Rattle.chacha20poly1305.proofs.AeadLemmas.{sealed_message-parts}
use Rattle.chacha20_c.proofs.authenticated.chacha20_aead_decrypt_in_place.Goals as goal

pub returns-in-Ok-clause-opened : goal.returns-in-Ok-clause-opened
returns-in-Ok-clause-opened c ok =
    let opened = rw c.new.ensures at c.in-Ok.ensures in
    sealed_message-parts (chacha_stream 10 ietf c.args.key.now c.args.nonce.now) c.args.aad.now _ _ _
    (opened.accepted.0 refl).1 opened.text
