-- libsodium's crypto_secretstream_xchacha20poly1305: messages, each of which moves the state that it was made from.
use Rattle.std.specs.Prelude.{◌≡◌, ◌≤◌, ◌+◌, ◌%◌, ◌^◌, ◌∷◌, ◌++◌, ℕ, List, take, drop, length, replicate, bit_and, nat_eq, slice_index, if◌then◌else◌}
use Rattle.std.specs.Int.{to_le_bytes, w32, w64}
use Rattle.chacha20poly1305.specs.ChaCha.{ietf, chacha_stream, xor_stream}
use Rattle.chacha20poly1305.specs.XChaCha.{hchacha}
use Rattle.chacha20poly1305.specs.Poly1305.{padding, poly1305}
use Rattle.chacha20poly1305.specs.Aead.{encrypted, mac_key}

-- a key, and the two parts of a nonce of ChaCha20: a counter of 32 bits, and the inner nonce of 8 bytes
pub record State : Type 0 where
  pub key : List ℕ
  pub counter : ℕ
  pub inner : List ℕ

-- the first state of a stream with this header of 24 bytes
abbrev pub start : List ℕ → List ℕ → State
start key header =
    record { key = hchacha 10 key (take 16 header); counter = 1; inner = drop 16 header }

-- the keystream of the next message
abbrev pub stream_of : State → ℕ → ℕ
stream_of s = chacha_stream 10 ietf s.key (to_le_bytes w32 s.counter ++ s.inner)

-- what is encrypted, from block 1 on: the tag byte in a block of its own, and then the text
abbrev pub ciphertext : State → ℕ → List ℕ → List ℕ
ciphertext s tag text = encrypted (stream_of s) (tag ∷ replicate 63 0 ++ text)

-- what the MAC takes: the zeros behind the ciphertext are libsodium's, and don't fill up its last 16 bytes
abbrev pub mac_text : List ℕ → List ℕ → List ℕ
mac_text aad bytes =
    aad ++ padding (length aad) ++ bytes ++ replicate (length bytes % 16) 0
    ++ to_le_bytes w64 (length aad) ++ to_le_bytes w64 (length bytes)

abbrev pub mac_of : State → List ℕ → ℕ → List ℕ → List ℕ
mac_of s aad tag text =
    poly1305 (mac_key (stream_of s)) (mac_text aad (ciphertext s tag text))

-- the message: of the tag's block only the first byte, the encrypted text, and the MAC's tag
unfoldable pub message_of : State → List ℕ → ℕ → List ℕ → List ℕ
message_of s aad tag text =
    let bytes = ciphertext s tag text in
    take 1 bytes ++ drop 64 bytes ++ mac_of s aad tag text

-- these bytes are the next message of some text
abbrev pub IsMessage : State → List ℕ → List ℕ → Type 0
IsMessage s aad bytes =
    (tag : ℕ) × (text : List ℕ) × (128 + length text ≤ 2 ^ 38) × (bytes ≡ message_of s aad tag text)

-- with another key and inner nonce, which are combined with the first 40 bytes of keystream
abbrev pub rekeyed : State → State
rekeyed s =
    let bytes = xor_stream (stream_of s) 0 (s.key ++ s.inner) in
    record { key = take 32 bytes; counter = 1; inner = drop 32 bytes }

-- with the next counter, and an inner nonce that is combined with the first 8 bytes of the MAC's tag
abbrev pub counted : State → List ℕ → State
counted s mac =
    record s {
      counter = (s.counter + 1) % 2 ^ 32;
      inner = xor_stream (slice_index mac) 0 s.inner;
    }

-- the state after a message with this tag: rekeyed if bit 1 of the tag byte is set or all counters are used
abbrev pub moved : State → List ℕ → ℕ → State
moved s mac tag =
    let next = counted s mac in
    if nat_eq (bit_and tag 2) 0 then (if nat_eq next.counter 0 then rekeyed next else next)
    else rekeyed next

unfoldable pub after : State → List ℕ → ℕ → List ℕ → State
after s aad tag text = moved s (mac_of s aad tag text) tag
