use Rattle.std.proofs.Common.{◌∙◌, ap}
use Rattle.chacha20.specs.ChaCha.{keystream, xor_stream}
use Rattle.chacha20.proofs.KeystreamLemmas.{xor_stream-xor_stream}
use Rattle.chacha20poly1305.specs.Aead.{encrypted}
use Rattle.chacha20poly1305.proofs.chacha_poly1305.ChaChaPoly1305.decrypt_in_place_detached.Goals as goal

pub returns-clause-text : goal.returns-clause-text
returns-clause-text g c =
    let cipher = g.C.Keystream in
    c.apply.ensures
    ∙ ap (λ blocks. encrypted (keystream cipher.modulus blocks) c.args.message.now)
    (ap cipher.block_at c.in_ok-begin_verified.ensures.fixed ∙ c.new-cipher.ensures.keystream
    ∙ ap (λ key. g.C.KeyIvInit.blocks_of key c.args.nonce.now) c.self.view_is)

pub returns-clause-decrypted : goal.returns-clause-decrypted
returns-clause-decrypted g c plaintext same =
    returns-clause-text g c ∙ ap (xor_stream _ 64) same ∙ xor_stream-xor_stream _ 64 plaintext
