-- What a message is made of, and that it determines its tag byte and its text.
use Rattle.std.proofs.Common.{◌≡◌, ◌+◌, ◌-◌, ◌%◌, ◌∙◌, ◌∷◌, ◌++◌, ℕ, List, [], length, take, drop, replicate, slice_index, slice_set, bit_xor, arith, refl, sym, ap, ap₂, length-append, length-drop, length-take-le, take_at, drop_at}
use Rattle.std.proofs.lemmas.List.{append_assoc, take-append-drop, take-replicate}
use Rattle.std.specs.Int.{w64, to_le_bytes}
use Rattle.std.specs.Int.Bits.{xor_assoc, xor_self, xor_zero_r}
use Rattle.chacha20.specs.ChaCha.{xor_stream}
use Rattle.chacha20.proofs.KeystreamLemmas.{length-xor_stream, xor_stream-xor_stream, take-xor_stream, drop-xor_stream, xor_stream-zeros}
use Rattle.poly1305.specs.Poly1305.{padding, poly1305, tag_from}
use Rattle.chacha20poly1305.specs.Aead.{mac_key}
use Rattle.secretstream.specs.Stream.{State, stream_of, mac_text, mac_of, message_of, IsMessage}

-- the text of the MAC in the pieces in which it is taken
pub mac_text-parts : (aad block text lengths : List ℕ) → length block ≡ 64
    → lengths ≡ to_le_bytes w64 (length aad) ++ to_le_bytes w64 (64 + length text)
    → [] ++ aad ++ take ((16 - length aad % 16) % 16) (replicate 16 0) ++ block ++ text
    ++ take (length text % 16) (replicate 16 0) ++ lengths
    ≡ mac_text aad (block ++ text)
mac_text-parts aad block text lengths long are =
    let n = length (block ++ text) in
    let size : n ≡ 64 + length text = length-append block text ∙ ap (λ n. n + length text) long in
    let same : length text % 16 ≡ n % 16 = omega (arith, size) in
    let behind_aad : take ((16 - length aad % 16) % 16) (replicate 16 0) ≡ padding (length aad) =
    take-replicate {X = ℕ} ((16 - length aad % 16) % 16) 16 0 (omega arith) in
    let behind_text : take (length text % 16) (replicate 16 0) ≡ replicate (n % 16) 0 =
    take-replicate {X = ℕ} (length text % 16) 16 0 (omega arith) ∙ ap (λ k. replicate k 0) same in
    let front = aad ++ padding (length aad) in
    ap₂ (λ f z. f ++ z ++ lengths)
    (ap (λ z. aad ++ z ++ block ++ text) behind_aad ∙ append_assoc front block text) behind_text
    ∙ ap (λ l. front ++ (block ++ text) ++ replicate (n % 16) 0 ++ l)
    (are ∙ ap (λ k. to_le_bytes w64 (length aad) ++ to_le_bytes w64 k) (sym size))
    ∙ sym (append_assoc (front ++ (block ++ text) ++ replicate (n % 16) 0) (to_le_bytes w64 (length aad))
    (to_le_bytes w64 n))

-- to combine a number twice is to leave it alone
xor_twice : (x k : ℕ) → bit_xor (bit_xor x k) k ≡ x
xor_twice x k = xor_assoc x k k ∙ ap (bit_xor x) (xor_self k) ∙ xor_zero_r x

-- the tag of a message that has this first byte and this ciphertext
abbrev pub tag_for : State → List ℕ → ℕ → List ℕ → List ℕ
tag_for s aad first ciphertext =
    poly1305 (mac_key (stream_of s))
    (mac_text aad ((first ∷ xor_stream (stream_of s) 65 (replicate 63 0)) ++ ciphertext))

module _ (s : State) (aad : List ℕ) where
  -- it is that of what it decrypts to
  pub tag-opened : (first : ℕ) (ciphertext : List ℕ)
      → tag_for s aad first ciphertext
      ≡ mac_of s aad (bit_xor first (stream_of s 64)) (xor_stream (stream_of s) 128 ciphertext)
  tag-opened first ciphertext =
      ap₂ (tag_for s aad) (sym (xor_twice first (stream_of s 64)))
      (sym (xor_stream-xor_stream (stream_of s) 128 ciphertext))

  -- what has the right tag is a message
  pub opened : (bytes : List ℕ) (first : ℕ) (ciphertext end : List ℕ) → bytes ≡ first ∷ (ciphertext ++ end)
      → end ≡ tag_for s aad first ciphertext
      → bytes ≡ message_of s aad (bit_xor first (stream_of s 64)) (xor_stream (stream_of s) 128 ciphertext)
  unfolding message_of
  opened bytes first ciphertext end parts right =
      parts ∙ ap (λ e. first ∷ (ciphertext ++ e)) (right ∙ tag-opened first ciphertext)
      ∙ ap₂ (λ x c. x ∷ (c ++ mac_of s aad (bit_xor first (stream_of s 64)) (xor_stream (stream_of s) 128 ciphertext)))
      (sym (xor_twice first (stream_of s 64))) (sym (xor_stream-xor_stream (stream_of s) 128 ciphertext))

  pub length-message_of : (tag : ℕ) (text : List ℕ) → length (message_of s aad tag text) ≡ length text + 17
  unfolding tag_from message_of
  length-message_of tag text =
      let tail : length (xor_stream (stream_of s) 128 text ++ mac_of s aad tag text) ≡ length text + 16 =
      length-append (xor_stream (stream_of s) 128 text) (mac_of s aad tag text)
      ∙ ap (λ n. n + 16) (length-xor_stream (stream_of s) 128 text) in
      omega (arith, tail)

  -- the parts of a message
  pub record Parts (tag : ℕ) (text : List ℕ) (first : ℕ) (ciphertext end : List ℕ) : Type 0 where
    pub byte : first ≡ bit_xor tag (stream_of s 64)
    pub front : ciphertext ≡ xor_stream (stream_of s) 128 text
    pub back : end ≡ mac_of s aad tag text
    pub right : end ≡ tag_for s aad first ciphertext
    pub was_tag : bit_xor first (stream_of s 64) ≡ tag
    pub was_text : xor_stream (stream_of s) 128 ciphertext ≡ text

  pub parts-of : (tag : ℕ) (text bytes : List ℕ) (first : ℕ) (ciphertext end : List ℕ)
      → bytes ≡ first ∷ (ciphertext ++ end) → length bytes ≡ length ciphertext + 17
      → bytes ≡ message_of s aad tag text → Parts tag text first ciphertext end
  unfolding message_of
  parts-of tag text bytes first ciphertext end parts long is =
      let n = length ciphertext in
      let whole = sym parts ∙ is in
      let size : length (xor_stream (stream_of s) 128 text) ≡ n =
      omega (arith, long, ap length is, length-message_of tag text, length-xor_stream (stream_of s) 128 text) in
      let mac = mac_of s aad tag text in
      let byte : first ≡ bit_xor tag (stream_of s 64) = ap (λ xs. slice_index xs 0) whole in
      let tail : ciphertext ++ end ≡ xor_stream (stream_of s) 128 text ++ mac = ap (drop 1) whole in
      let front = sym (take_at ciphertext end n refl) ∙ ap (take n) tail
      ∙ take_at (xor_stream (stream_of s) 128 text) mac n size in
      let back = sym (drop_at ciphertext end n refl) ∙ ap (drop n) tail
      ∙ drop_at (xor_stream (stream_of s) 128 text) mac n size in
      record {
        byte = byte;
        front = front;
        back = back;
        right = back ∙ sym (ap₂ (tag_for s aad) byte front);
        was_tag = ap (λ x. bit_xor x (stream_of s 64)) byte ∙ xor_twice tag (stream_of s 64);
        was_text = ap (xor_stream (stream_of s) 128) front ∙ xor_stream-xor_stream (stream_of s) 128 text;
      }

-- bytes in three parts
three-parts : (bytes : List ℕ) (n : ℕ) → length bytes ≡ n + 17
    → bytes ≡ slice_index (take 1 bytes) 0 ∷ (take n (drop 1 bytes) ++ drop n (drop 1 bytes))
three-parts [] n long = absurd (omega (arith, long))
three-parts (x ∷ xs) n long = ap (λ l. x ∷ l) (sym (take-append-drop n xs))

-- bytes that are read: their parts, and the tag that they should have
pub record Read (s : State) (aad bytes : List ℕ) (first : ℕ) (ciphertext end mac : List ℕ) : Type 0 where
  pub parts : bytes ≡ first ∷ (ciphertext ++ end)
  pub long : length bytes ≡ length ciphertext + 17
  pub is : mac ≡ tag_for s aad first ciphertext

pub read : (s : State) (aad bytes : List ℕ) (n : ℕ) {front rest ciphertext end key block mac : List ℕ}
    → length bytes ≡ n + 17 → front ≡ take 1 bytes → rest ≡ drop 1 bytes
    → ciphertext ≡ take n rest → end ≡ drop n rest → key ≡ mac_key (stream_of s)
    → block ≡ xor_stream (stream_of s) 64 (slice_index front 0 ∷ replicate 63 0)
    → mac ≡ poly1305 key (mac_text aad (slice_set block 0 (slice_index front 0) ++ ciphertext))
    → Read s aad bytes (slice_index front 0) ciphertext end mac
read s aad bytes n {front} {rest} {ciphertext} {end} long at_front at_rest is_text is_end is_key is_block is_mac =
    record {
      parts = three-parts bytes n long
          ∙ ap₂ ◌∷◌ (ap (λ xs. slice_index xs 0) (sym at_front))
          (ap₂ ◌++◌ (ap (take n) (sym at_rest) ∙ sym is_text) (ap (drop n) (sym at_rest) ∙ sym is_end));
      long = omega (
        arith,
        long,
        ap length is_text,
        ap length at_rest,
        length-drop 1 bytes,
        length-take-le n rest (omega (arith, long, ap length at_rest, length-drop 1 bytes)),
      );
      is = is_mac
          ∙ ap₂ (λ k b. poly1305 k (mac_text aad (slice_set b 0 (slice_index front 0) ++ ciphertext))) is_key is_block;
    }

module _ {s : State} {aad bytes : List ℕ} {first : ℕ} {ciphertext end mac : List ℕ}
    (r : Read s aad bytes first ciphertext end mac) where
  -- with the right tag they are a message
  pub read-message : mac ≡ end
      → bytes ≡ message_of s aad (bit_xor first (stream_of s 64)) (xor_stream (stream_of s) 128 ciphertext)
  read-message right = opened s aad bytes first ciphertext end r.parts (sym right ∙ r.is)

  -- and a message has the right tag
  pub read-right : IsMessage s aad bytes → mac ≡ end
  read-right sent =
      r.is ∙ sym (parts-of s aad sent.0 sent.1 bytes first ciphertext end r.parts r.long sent.3).right

-- blocks 0 and 1, made by one call
module _ (stream : ℕ → ℕ) (byte : ℕ) {made : ℕ → ℕ} {place : ℕ} {front : List ℕ}
    (bytes : front ≡ xor_stream made place (replicate 64 0 ++ byte ∷ replicate 63 0)) (is : made ≡ stream)
    (first : place ≡ 0) where
  both : front ≡ xor_stream stream 0 (replicate 64 0 ++ byte ∷ replicate 63 0)
  both = bytes ∙ ap₂ (λ (s : ℕ → ℕ) p. xor_stream s p (replicate 64 0 ++ byte ∷ replicate 63 0)) is first

  pub front-key : take 32 front ≡ mac_key stream
  unfolding mac_key
  front-key =
      ap (take 32) both ∙ take-xor_stream stream 0 32 (replicate 64 0 ++ byte ∷ replicate 63 0)
      ∙ xor_stream-zeros stream 0 32

  pub front-block : drop 64 front ≡ xor_stream stream 64 (byte ∷ replicate 63 0)
  front-block = ap (drop 64) both ∙ drop-xor_stream stream 0 64 (replicate 64 0 ++ byte ∷ replicate 63 0)

-- a message determines its tag byte and its text
pub message_of-same : (s : State) (aad : List ℕ) (tag byte : ℕ) (text other : List ℕ)
    → message_of s aad tag text ≡ message_of s aad byte other → (tag ≡ byte) × (text ≡ other)
unfolding message_of
message_of-same s aad tag byte text other same =
    let hidden = xor_stream (stream_of s) 128 text in
    let size : length (message_of s aad tag text) ≡ length hidden + 17 =
    length-message_of s aad tag text ∙ ap (λ n. n + 17) (sym (length-xor_stream (stream_of s) 128 text)) in
    let p = parts-of s aad byte other (message_of s aad tag text) (bit_xor tag (stream_of s 64)) hidden
    (mac_of s aad tag text) refl size same in (
      sym (xor_twice tag (stream_of s 64)) ∙ p.was_tag,
      sym (xor_stream-xor_stream (stream_of s) 128 text) ∙ p.was_text,
    )
