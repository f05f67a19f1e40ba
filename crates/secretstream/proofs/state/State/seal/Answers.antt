use Rattle.std.proofs.Common.{◌∙◌, ◌++◌, ℕ, take, ap, ap₂}
use Rattle.chacha20.specs.ChaCha.{xor_stream}
use Rattle.poly1305.specs.Poly1305.{poly1305}
use Rattle.secretstream.specs.Stream.{mac_text, message_of}
use Rattle.secretstream.proofs.state.State.seal.Goals as goal

pub returns-clause-mac : goal.returns-clause-mac
returns-clause-mac g c =
    let begun = c.begin-cipher.ensures in
    c.mac_of-mac.ensures
    ∙ ap₂ (λ key bytes. poly1305 key (mac_text c.args.aad.now bytes)) begun.key
    (ap₂ ◌++◌ begun.block
    (c.apply_keystream_b2b.ensures.bytes
    ∙ ap₂ (λ (s : ℕ → ℕ) p. xor_stream s p c.args.text.now) begun.stream begun.position))

pub returns-clause-message : goal.returns-clause-message
unfolding message_of
returns-clause-message g c =
    let begun = c.begin-cipher.ensures in
    ap₂ ◌++◌ (c.copy_from_slice.ensures.after ∙ ap (take 1) begun.block)
    (ap₂ ◌++◌
    (c.apply_keystream_b2b.ensures.bytes
    ∙ ap₂ (λ (s : ℕ → ℕ) p. xor_stream s p c.args.text.now) begun.stream begun.position)
    (c.copy_from_slice-2.ensures.after ∙ returns-clause-mac g c))
