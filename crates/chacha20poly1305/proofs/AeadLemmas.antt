-- Tags and sealed messages. Proofs of callers may cite these.
use Rattle.std.proofs.Common.{◌≡◌, ◌+◌, ◌∙◌, ◌++◌, ℕ, List, length, take, drop, sym, ap, ap₂, refl, length-append, take_at, drop_at}
use Rattle.std.proofs.lemmas.List.{take-append-drop}
use Rattle.chacha20.proofs.KeystreamLemmas.{length-xor_stream, xor_stream-xor_stream}
use Rattle.poly1305.specs.Poly1305.{tag_from}
use Rattle.chacha20poly1305.specs.Aead.{encrypted, poly1305_tag, sealed_message}

pub length-poly1305_tag : (stream : ℕ → ℕ) (aad ciphertext : List ℕ) → length (poly1305_tag stream aad ciphertext) ≡ 16
unfolding tag_from
length-poly1305_tag stream aad ciphertext = refl

pub length-sealed_message : (stream : ℕ → ℕ) (aad text : List ℕ)
    → length (sealed_message stream aad text) ≡ length text + 16
length-sealed_message stream aad text =
    let ciphertext = encrypted stream text in
    length-append ciphertext (poly1305_tag stream aad ciphertext)
    ∙ ap₂ ◌+◌ (length-xor_stream stream 64 text) (length-poly1305_tag stream aad ciphertext)

-- the ciphertext of a sealed message
pub take-sealed_message : (stream : ℕ → ℕ) (aad text : List ℕ) (n : ℕ) → length text ≡ n
    → take n (sealed_message stream aad text) ≡ encrypted stream text
take-sealed_message stream aad text n long =
    let ciphertext = encrypted stream text in
    take_at ciphertext (poly1305_tag stream aad ciphertext) n (length-xor_stream stream 64 text ∙ long)

-- the tag of a sealed message
pub drop-sealed_message : (stream : ℕ → ℕ) (aad text : List ℕ) (n : ℕ) → length text ≡ n
    → drop n (sealed_message stream aad text) ≡ poly1305_tag stream aad (encrypted stream text)
drop-sealed_message stream aad text n long =
    let ciphertext = encrypted stream text in
    drop_at ciphertext (poly1305_tag stream aad ciphertext) n (length-xor_stream stream 64 text ∙ long)

-- a sealed message has the tag of its ciphertext
pub tag-sealed_message : (stream : ℕ → ℕ) (aad text : List ℕ) (n : ℕ) (xs : List ℕ)
    → xs ≡ sealed_message stream aad text → length text ≡ n → drop n xs ≡ poly1305_tag stream aad (take n xs)
tag-sealed_message stream aad text n xs same long =
    ap (drop n) same ∙ drop-sealed_message stream aad text n long
    ∙ sym (ap (poly1305_tag stream aad) (ap (take n) same ∙ take-sealed_message stream aad text n long))

-- a ciphertext and its tag are the sealed message of the decrypted text
pub sealed_message-parts : (stream : ℕ → ℕ) (aad ciphertext tag text : List ℕ)
    → tag ≡ poly1305_tag stream aad ciphertext → text ≡ encrypted stream ciphertext
    → ciphertext ++ tag ≡ sealed_message stream aad text
sealed_message-parts stream aad ciphertext tag text right decrypted =
    ap (λ t. ciphertext ++ t) right
    ∙ ap (λ c. c ++ poly1305_tag stream aad c)
    (sym (ap (encrypted stream) decrypted ∙ xor_stream-xor_stream stream 64 ciphertext))

pub is-sealed_message : (stream : ℕ → ℕ) (aad input : List ℕ) (n : ℕ)
    → drop n input ≡ poly1305_tag stream aad (take n input)
    → input ≡ sealed_message stream aad (encrypted stream (take n input))
is-sealed_message stream aad input n right =
    sym (take-append-drop n input) ∙ sealed_message-parts stream aad _ _ _ right refl
