-- A message that is encrypted in two parts: its front behind block 0, and then the rest.
use Rattle.std.proofs.Common.{◌≡◌, ◌≢◌, ◌≤◌, ◌+◌, ◌-◌, ◌∙◌, ◌++◌, ℕ, Bool, true, false, nat_eq, List, min, length, take, drop, arith, refl, sym, ap, ap₂, length-append, length-drop, length-take-le, take_at, drop_at, replicate}
use Rattle.std.proofs.lemmas.Bool.{eqb-true, eq-eqb, true≢false}
use Rattle.std.proofs.lemmas.List.{nil_from_length}
use Rattle.chacha20.specs.ChaCha.{xor_stream}
use Rattle.chacha20.proofs.KeystreamLemmas.{length-xor_stream, take-xor_stream, window-xor_stream, xor_stream-parts, xor_stream-zeros}
use Rattle.chacha20poly1305.specs.Aead.{mac_key}
use Rattle.chacha20poly1305.specs.Front.{HasFront}

-- zeros and a text, which one call combines with the stream from byte 0 on
module _ (stream : ℕ → ℕ) (made : List ℕ) {front zeros : List ℕ} {position : ℕ}
    (bytes : front ≡ xor_stream stream position (zeros ++ made)) (start : position ≡ 0)
    (block_0 : zeros ≡ replicate 64 0) where
  xored : front ≡ xor_stream stream 0 (replicate 64 0 ++ made)
  xored = bytes ∙ ap₂ (λ p z. xor_stream stream p (z ++ made)) start block_0

  pub front-key : take 32 front ≡ mac_key stream
  unfolding mac_key
  front-key =
      ap (take 32) xored ∙ take-xor_stream stream 0 32 (replicate 64 0 ++ made) ∙ xor_stream-zeros stream 0 32

  pub front-text : (text behind : List ℕ) (n : ℕ) → made ≡ take n text ++ behind → n ≡ min (length text) (length made)
      → HasFront stream text front
  front-text text behind n copied is =
      let block : List ℕ = replicate 64 0 in
      let size : length front ≡ 64 + length made =
      ap length xored ∙ length-xor_stream stream 0 (block ++ made) ∙ length-append block made in
      let same : min (length text) (length front - 64) ≡ n = omega (arith, size, is) in
      let placed : take n (drop 64 (block ++ made)) ≡ take n text =
      ap (take n) (drop_at block made 64 refl ∙ copied)
      ∙ take_at (take n text) behind n (length-take-le n text (omega (arith, is))) in
      ap (λ k. take k (drop 64 front)) same ∙ ap (λ s. take n (drop 64 s)) xored
      ∙ window-xor_stream stream 0 64 n (block ++ made)
      ∙ ap (xor_stream stream 64) (placed ∙ sym (ap (λ k. take k text) same))

-- a message in two parts, of which the first is made
pub record TwoParts (stream : ℕ → ℕ) (front made message first rest : List ℕ) : Type 0 where
  pub begun : HasFront stream message front
  pub some : 64 ≤ length front
  pub behind : made ≡ drop 64 front
  pub parts : message ≡ first ++ rest
  pub size : length first ≡ min (length message) (length made)

module _ {stream : ℕ → ℕ} {front made message first rest new : List ℕ}
    (two : TwoParts stream front made message first rest) (copied : new ≡ take (length first) made) where
  first-part : new ≡ xor_stream stream 64 first
  first-part =
      let n = length first in
      let same : min (length message) (length front - 64) ≡ n =
      omega (arith, two.size, ap length two.behind, length-drop 64 front) in
      copied ∙ ap (take n) two.behind ∙ ap (λ k. take k (drop 64 front)) (sym same) ∙ two.begun
      ∙ ap (xor_stream stream 64) (ap₂ take same two.parts ∙ take_at first rest n refl)

  -- where something is behind the front
  pub both-parts : {empty : Bool} {position : ℕ} {new_rest : List ℕ} → empty ≡ nat_eq (length rest) 0 → empty ≡ false
      → position ≡ length front → new_rest ≡ xor_stream stream position rest
      → new ++ new_rest ≡ xor_stream stream 64 message
  both-parts {position = position} is some placed xored_rest =
      let more : length rest ≢ 0 = λ none. true≢false (sym (eq-eqb (length rest) 0 none) ∙ sym is ∙ some) in
      let place : position ≡ 64 + length first =
      omega (
        arith,
        more,
        placed,
        two.size,
        two.some,
        ap length two.behind,
        length-drop 64 front,
        ap length two.parts,
        length-append first rest,
      ) in
      xor_stream-parts stream 64 first rest two.parts place first-part xored_rest

  -- where nothing is
  pub one-part : {empty : Bool} → empty ≡ nat_eq (length rest) 0 → empty ≡ true
      → new ++ rest ≡ xor_stream stream 64 message
  one-part is none =
      let nothing = nil_from_length rest (eqb-true (length rest) 0 (sym is ∙ none)) in
      xor_stream-parts stream 64 first rest two.parts refl first-part
      (nothing ∙ sym (ap (xor_stream stream (64 + length first)) nothing))
