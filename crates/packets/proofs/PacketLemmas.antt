-- Which bytes are a packet: those that begin with a header, and end with the tag of what is behind it.
use Rattle.std.proofs.Common.{◌≡◌, ◌<◌, ◌≤◌, ◌+◌, ◌^◌, ◌∙◌, ◌∷◌, ◌++◌, ◌↔◌, ℕ, List, [], inl, inr, length, take, drop, replicate, arith, refl, sym, ap, ap₂, length-drop, length-take-le, Fits, w8}
use Rattle.std.proofs.Math.ListN.{get_or, get_or-eq_default}
use Rattle.std.proofs.Math.Seq.{take-add}
use Rattle.std.proofs.lemmas.Bool.{cases_lt}
use Rattle.std.proofs.lemmas.List.{take-append-drop, drop-drop, get_or-take, get_or-drop}
use Rattle.std.proofs.lemmas.Nat.{le_bytes_4, le_bytes_8, from_le_bytes-to_le_bytes_8}
use Rattle.std.specs.Int.{to_le_bytes, w32, w64}
use Rattle.chacha20poly1305.specs.ChaCha.{ietf, chacha_stream}
use Rattle.chacha20poly1305.specs.Aead.{encrypted, poly1305_tag, sealed_message}
use Rattle.chacha20poly1305.proofs.AeadLemmas.{is-sealed_message, length-sealed_message, take-sealed_message, drop-sealed_message}
use Rattle.packets.specs.Packets.{header_of, stream_of, packet_of, index_of, counter_of, IsTransportData, IsPacket}

-- all elements are bytes
abbrev AreBytes : List ℕ → Type 0
AreBytes xs = (i : ℕ) → Fits w8 (get_or xs i 0)

-- those of a part are bytes, too
part : (xs : List ℕ) (at n : ℕ) → at + n ≤ length xs → AreBytes xs → (i : ℕ) → get_or (take n (drop at xs)) i 0 < 256
part xs at n fits are i = elim (cases_lt i n) [
  | inl less ↦ omega (arith, get_or-take n (drop at xs) i 0 less, get_or-drop at xs i 0, are (at + i))
  | inr least ↦ omega (
    arith,
    get_or-eq_default (take n (drop at xs)) 0 {n = i}
        (omega (arith, length-take-le n (drop at xs) (omega (arith, length-drop at xs, fits)), least)),
  )
]

part-long : (xs : List ℕ) (at n : ℕ) → at + n ≤ length xs → length (take n (drop at xs)) ≡ n
part-long xs at n fits = length-take-le n (drop at xs) (omega (arith, length-drop at xs, fits))

-- the numbers in a header are those of its bytes
index-bytes : (xs : List ℕ) → 8 ≤ length xs → AreBytes xs → to_le_bytes w32 (index_of xs) ≡ take 4 (drop 4 xs)
unfolding index_of
index-bytes xs long are =
    le_bytes_4 (take 4 (drop 4 xs)) (index_of xs) (part-long xs 4 4 long) (part xs 4 4 long are) refl

counter-bytes : (xs : List ℕ) → 16 ≤ length xs → AreBytes xs → to_le_bytes w64 (counter_of xs) ≡ take 8 (drop 8 xs)
unfolding counter_of
counter-bytes xs long are =
    le_bytes_8 (take 8 (drop 8 xs)) (counter_of xs) (part-long xs 8 8 long) (part xs 8 8 long are) refl

-- which bytes are a sealed text
opens : (stream : ℕ → ℕ) (bytes : List ℕ) (n : ℕ) → length bytes ≡ n + 16
    → ((64 + n ≤ 2 ^ 38) × (drop n bytes ≡ poly1305_tag stream [] (take n bytes)))
    ↔ ((text : List ℕ) × (64 + length text ≤ 2 ^ 38) × (bytes ≡ sealed_message stream [] text))
opens stream bytes n long = (
  λ right.
      let text = encrypted stream (take n bytes) in
      let same = is-sealed_message stream [] bytes n right.1 in
      (text, omega (arith, right.0, long, ap length same, length-sealed_message stream [] text), same),
  λ sealed.
      let size = ap length sealed.2 ∙ length-sealed_message stream [] sealed.0 in
      let text_long : length sealed.0 ≡ n = omega (arith, long, size) in (
        omega (arith, sealed.1, text_long),
        ap (drop n) sealed.2 ∙ drop-sealed_message stream [] sealed.0 n text_long
            ∙ ap (poly1305_tag stream [])
            (sym (ap (take n) sealed.2 ∙ take-sealed_message stream [] sealed.0 n text_long)),
      ),
)

-- bytes that have a header
pub record Begins (bytes : List ℕ) (index n : ℕ) : Type 0 where
  pub kind : take 4 bytes ≡ 4 ∷ 0 ∷ 0 ∷ 0 ∷ []
  pub at_index : to_le_bytes w32 index ≡ take 4 (drop 4 bytes)
  pub at_counter : to_le_bytes w64 n ≡ take 8 (drop 8 bytes)

module _ (key : List ℕ) {bytes : List ℕ} {index n : ℕ} (b : Begins bytes index n) where
  header : take 16 bytes ≡ header_of index n
  header =
      take-add 4 12 bytes
      ∙ ap₂ ◌++◌ b.kind
      (take-add 4 8 (drop 4 bytes)
      ∙ ap₂ ◌++◌ (sym b.at_index) (ap (take 8) (drop-drop 4 4 bytes) ∙ sym b.at_counter))

  -- with a sealed text behind it they are its packet
  made : (text : List ℕ) → drop 16 bytes ≡ sealed_message (stream_of key n) [] text → bytes ≡ packet_of key index n text
  unfolding packet_of
  made text sealed = sym (take-append-drop 16 bytes) ∙ ap₂ ◌++◌ header sealed

  -- and a packet of any header has a sealed text behind it
  pub sealed-in : (i m : ℕ) (text : List ℕ) → bytes ≡ packet_of key i m text
      → drop 16 bytes ≡ sealed_message (stream_of key n) [] text
  unfolding packet_of
  sealed-in i m text is =
      ap (drop 16) is
      ∙ ap (λ c. sealed_message (chacha_stream 10 ietf key (replicate 4 0 ++ c)) [] text)
      (sym (ap (λ xs. take 8 (drop 8 xs)) is) ∙ sym b.at_counter)

-- transport data has a header
begins : (xs : List ℕ) → IsTransportData xs → AreBytes xs → Begins xs (index_of xs) (counter_of xs)
begins xs is are = record {
  kind = is.1;
  at_index = index-bytes xs (omega (arith, is.0)) are;
  at_counter = counter-bytes xs (omega (arith, is.0)) are;
}

module _ (key xs : List ℕ) (n : ℕ) (long : length xs ≡ n + 32) (is : IsTransportData xs) (are : AreBytes xs) where
  -- the right tag makes a packet
  pub accepted : ((64 + n ≤ 2 ^ 38)
      × (drop n (drop 16 xs) ≡ poly1305_tag (stream_of key (counter_of xs)) [] (take n (drop 16 xs))))
      ↔ IsPacket key xs
  unfolding IsPacket
  accepted =
      let b = begins xs is are in
      let o = opens (stream_of key (counter_of xs)) (drop 16 xs) n (omega (arith, long, length-drop 16 xs)) in (
        λ right. let t = o.0 right in (t.0, t.1, made key b t.0 t.2),
        λ sent. o.1 (sent.0, sent.1, sealed-in key b _ _ sent.0 sent.2),
      )

  -- behind the header of any packet is its text, sealed
  pub sealed-text : (i m : ℕ) (text : List ℕ) → xs ≡ packet_of key i m text
      → drop 16 xs ≡ sealed_message (stream_of key (counter_of xs)) [] text
  sealed-text = sealed-in key (begins xs is are)

-- a packet has the counter from which it was made
pub counter-packet_of : (key : List ℕ) (i n : ℕ) (text : List ℕ) → n < 2 ^ 64 → counter_of (packet_of key i n text) ≡ n
unfolding packet_of counter_of
counter-packet_of key i n text fits = from_le_bytes-to_le_bytes_8 n fits

-- a packet begins with the type
pub packet-kind : (key xs : List ℕ) (i m : ℕ) (text : List ℕ) → xs ≡ packet_of key i m text
    → take 4 xs ≡ 4 ∷ 0 ∷ 0 ∷ 0 ∷ []
unfolding packet_of
packet-kind key xs i m text is = ap (take 4) is
