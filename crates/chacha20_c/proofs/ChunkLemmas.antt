-- Chunks as messages of the AEAD, whose bytes come in two parts.
use Rattle.std.proofs.Common.{◌≡◌, ◌≤◌, ◌-◌, ◌∙◌, ℕ, Bool, List, [], ◌++◌, inl, inr, length, take, drop, arith, sym, ap, ap₂}
use Rattle.std.proofs.lemmas.List.{take-append-drop}
use Rattle.chacha20.specs.XChaCha.{xchacha_stream}
use Rattle.chacha20poly1305.specs.Aead.{poly1305_tag, sealed_message}
use Rattle.sealed_file.specs.Sealed.{xchacha20_poly1305, chunk_nonce, chunk}
use Rattle.sealed_file.proofs.ChunkLemmas.{chunk-tag}
use Rattle.chacha20_c.specs.Files.{IsTextLength}

-- no text of a chunk is longer
pub text-fits : (i : ℕ) (last : Bool) (len : ℕ) → IsTextLength i last len → len ≤ 65536
text-fits i last len (inl is) = omega (arith, is)
text-fits i last len (inr (_, less, _)) = omega (arith, less)

module _ (key salt : List ℕ) (last : Bool) {i number : ℕ} {nonce : List ℕ} (nonce_is : nonce ≡ chunk_nonce salt i last)
    (is : i ≡ number) where
  same-nonce : nonce ≡ chunk_nonce salt number last
  same-nonce = nonce_is ∙ ap (λ n. chunk_nonce salt n last) is

  -- what the AEAD made
  pub made-chunk : (front text : List ℕ) {tag place : List ℕ} → place ≡ tag
      → front ++ tag ≡ sealed_message (xchacha_stream 10 key nonce) [] text
      → front ++ place ≡ chunk key salt number last text
  unfolding chunk
  made-chunk front text place_is made =
      ap (λ t. front ++ t) place_is ∙ made ∙ ap (λ n. xchacha20_poly1305 key n text) same-nonce

module _ (key salt : List ℕ) (last : Bool) {i number : ℕ} {nonce : List ℕ} (nonce_is : nonce ≡ chunk_nonce salt i last)
    (is : i ≡ number) (bytes front : List ℕ) {back tag : List ℕ} (end : ℕ) (front_is : front ≡ take end bytes)
    (back_is : back ≡ drop end bytes) (tag_is : tag ≡ back) where
  -- what it opened
  pub opened-chunk : (text : List ℕ) → front ++ tag ≡ sealed_message (xchacha_stream 10 key nonce) [] text
      → bytes ≡ chunk key salt number last text
  opened-chunk text opened =
      sym (take-append-drop end bytes) ∙ ap₂ ◌++◌ (sym front_is) (sym back_is)
      ∙ made-chunk key salt last nonce_is is front text (sym tag_is) opened

  -- and what it has to open
  pub right-tag : (text : List ℕ) → end ≡ length bytes - 16 → bytes ≡ chunk key salt number last text
      → tag ≡ poly1305_tag (xchacha_stream 10 key nonce) [] front
  right-tag text end_is same =
      let stream = xchacha_stream 10 key nonce in
      tag_is ∙ back_is ∙ ap (λ e. drop e bytes) end_is
      ∙ chunk-tag key salt number last text nonce bytes (same-nonce key salt last nonce_is is) same
      ∙ ap (poly1305_tag stream []) (ap (λ e. take e bytes) (sym end_is) ∙ sym front_is)
