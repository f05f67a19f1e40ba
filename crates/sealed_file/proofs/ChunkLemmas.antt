-- Chunks of a file: where each stands, and that a file has one text.
use Rattle.std.proofs.Common.{◌≡◌, ◌<◌, ◌≤◌, ◌+◌, ◌-◌, ◌*◌, ◌/◌, ◌∙◌, ℕ, zero, suc, Bool, true, false, List, [], ◌++◌, length, take, drop, arith, refl, sym, ap, ap₂, append_assoc, append-nil, length-append, length-drop, length-take, length-take-le, drop_at, take_all, min, inl, inr, eq-or-lt_of_le, add-one}
use Rattle.std.proofs.Math.Nat.{min_comm}
use Rattle.std.proofs.lemmas.List.{take-append-le, drop-append-le}
use Rattle.chacha20.specs.XChaCha.{xchacha_stream}
use Rattle.chacha20.proofs.KeystreamLemmas.{xor_stream-xor_stream}
use Rattle.chacha20poly1305.specs.Aead.{encrypted, poly1305_tag}
use Rattle.chacha20poly1305.proofs.AeadLemmas.{length-sealed_message, tag-sealed_message, take-sealed_message}
use Rattle.sealed_file.specs.Opened.{decrypted}
use Rattle.sealed_file.specs.Sealed.{xchacha20_poly1305, header, chunk_nonce, chunk, chunks, piece, last_number, sealed}

pub length-chunk : (key salt : List ℕ) (i : ℕ) (last : Bool) (text : List ℕ)
    → length (chunk key salt i last text) ≡ length text + 16
unfolding chunk
length-chunk key salt i last text =
    length-sealed_message (xchacha_stream 10 key (chunk_nonce salt i last)) [] text

pub full-chunk : (key salt : List ℕ) (i : ℕ) (last : Bool) (text : List ℕ) → length text ≡ 65536
    → length (chunk key salt i last text) ≡ 65552
full-chunk key salt i last text full = length-chunk key salt i last text ∙ ap (λ k. k + 16) full

-- decrypting gives the text
pub chunk-opens : (key salt : List ℕ) (i : ℕ) (last : Bool) (text : List ℕ)
    → decrypted key salt i last (chunk key salt i last text) ≡ text
unfolding chunk
chunk-opens key salt i last text =
    let stream = xchacha_stream 10 key (chunk_nonce salt i last) in
    let bytes = chunk key salt i last text in
    ap (encrypted stream) (take-sealed_message stream [] text (length bytes - 16)
    (omega (arith, length-chunk key salt i last text)))
    ∙ xor_stream-xor_stream stream 64 text

-- so a chunk has one text
pub chunk-same : (key salt : List ℕ) (i : ℕ) (last : Bool) (xs ys : List ℕ)
    → chunk key salt i last xs ≡ chunk key salt i last ys → xs ≡ ys
chunk-same key salt i last xs ys same =
    sym (chunk-opens key salt i last xs) ∙ ap (decrypted key salt i last) same ∙ chunk-opens key salt i last ys

-- a chunk is a message under its nonce
pub chunk-is : (key salt : List ℕ) (i : ℕ) (last : Bool) (text nonce : List ℕ) → nonce ≡ chunk_nonce salt i last
    → xchacha20_poly1305 key nonce text ≡ chunk key salt i last text
unfolding chunk
chunk-is key salt i last text nonce nonce_is = ap (λ n. xchacha20_poly1305 key n text) nonce_is

-- the last 16 bytes of a chunk are the tag of the bytes before them
pub chunk-tag : (key salt : List ℕ) (i : ℕ) (last : Bool) (text nonce bytes : List ℕ)
    → nonce ≡ chunk_nonce salt i last → bytes ≡ chunk key salt i last text
    → drop (length bytes - 16) bytes ≡ poly1305_tag (xchacha_stream 10 key nonce) [] (take (length bytes - 16) bytes)
chunk-tag key salt i last text nonce bytes nonce_is same =
    tag-sealed_message (xchacha_stream 10 key nonce) [] text (length bytes - 16) bytes
    (same ∙ sym (chunk-is key salt i last text nonce nonce_is))
    (omega (arith, ap length same, length-chunk key salt i last text))

-- Pieces of a text.

pub piece-front : (m rest : List ℕ) (i : ℕ) → 65536 * suc i ≤ length m → piece (m ++ rest) i ≡ piece m i
piece-front m rest i fits =
    ap (take 65536) (drop-append-le (65536 * i) m rest (omega (arith, fits)))
    ∙ take-append-le 65536 (drop (65536 * i) m) rest (omega (arith, fits, length-drop (65536 * i) m))

pub piece-next : (m rest : List ℕ) (i : ℕ) → length m ≡ 65536 * i → piece (m ++ rest) i ≡ take 65536 rest
piece-next m rest i long = ap (take 65536) (drop_at m rest (65536 * i) long)

pub length-piece-at : (text : List ℕ) (i : ℕ) → length (piece text i) ≡ min (length text - 65536 * i) 65536
length-piece-at text i =
    length-take 65536 (drop (65536 * i) text) ∙ min_comm 65536 (length (drop (65536 * i) text))
    ∙ ap (λ k. min k 65536) (length-drop (65536 * i) text)

pub length-piece : (text : List ℕ) (i : ℕ) → 65536 * suc i ≤ length text → length (piece text i) ≡ 65536
length-piece text i fits =
    length-take-le 65536 (drop (65536 * i) text) (omega (arith, fits, length-drop (65536 * i) text))

-- the last piece: all that is left
pub last-piece : (text : List ℕ) → piece text (last_number text) ≡ drop (65536 * last_number text) text
last-piece text =
    let n = last_number text in
    take_all 65536 (drop (65536 * n) text) (omega (arith, length-drop (65536 * n) text))

pub length-last : (text : List ℕ) → length (piece text (last_number text)) ≡ length text - 65536 * last_number text
length-last text = ap length (last-piece text) ∙ length-drop (65536 * last_number text) text

last-is : (i n : ℕ) → n ≤ 65536 → (0 < i → 0 < n) → (65536 * i + n - 1) / 65536 ≡ i
last-is zero n fits some = omega (arith, fits)
last-is (suc i) n fits some = omega (arith, fits, some (omega arith))

module _ (key salt : List ℕ) where
  -- chunks are those of the text's front
  pub chunks-front : (m rest : List ℕ) (n : ℕ) → 65536 * n ≤ length m
      → chunks key salt (m ++ rest) n ≡ chunks key salt m n
  chunks-front m rest zero fits = refl
  chunks-front m rest (suc i) fits =
      ap₂ (λ cs p. cs ++ chunk key salt i false p) (chunks-front m rest i (omega (arith, fits)))
      (piece-front m rest i fits)

  -- one more chunk
  pub chunks-more : (m t : List ℕ) (i : ℕ) → length m ≡ 65536 * i → length t ≡ 65536
      → (header salt ++ chunks key salt m i) ++ chunk key salt i false t
      ≡ header salt ++ chunks key salt (m ++ t) (i + 1)
  chunks-more m t i long size =
      append_assoc (header salt) (chunks key salt m i) (chunk key salt i false t)
      ∙ ap (λ cs. header salt ++ cs)
      (sym (ap (chunks key salt (m ++ t)) (add-one i)
      ∙ ap₂ (λ cs p. cs ++ chunk key salt i false p) (chunks-front m t i (omega (arith, long)))
      (piece-next m t i long ∙ take_all 65536 t (omega (arith, size)))))

  -- the last chunk
  pub sealed-end : (m t : List ℕ) (i : ℕ) → length m ≡ 65536 * i → length t ≤ 65536 → (0 < i → 0 < length t)
      → (header salt ++ chunks key salt m i) ++ chunk key salt i true t ≡ sealed key salt (m ++ t)
  sealed-end m t i long fits some =
      let n : last_number (m ++ t) ≡ i =
      ap (λ k. (k - 1) / 65536) (length-append m t ∙ ap (λ k. k + length t) long) ∙ last-is i (length t) fits some in
      sym (ap (λ k. (header salt ++ chunks key salt (m ++ t) k) ++ chunk key salt k true (piece (m ++ t) k)) n
      ∙ ap₂ (λ cs p. (header salt ++ cs) ++ chunk key salt i true p) (chunks-front m t i (omega (arith, long)))
      (piece-next m t i long ∙ take_all 65536 t fits))

  pub length-chunks : (text : List ℕ) (n : ℕ) → 65536 * n ≤ length text → length (chunks key salt text n) ≡ 65552 * n
  length-chunks text zero fits = refl
  length-chunks text (suc i) fits =
      length-append (chunks key salt text i) (chunk key salt i false (piece text i))
      ∙ ap₂ ◌+◌ (length-chunks text i (omega (arith, fits)))
      (full-chunk key salt i false (piece text i) (length-piece text i fits))
      ∙ omega arith

  -- the first i chunks of n
  chunks-of : (text : List ℕ) (n i : ℕ) → i ≤ n
      → (rest : List ℕ) × (chunks key salt text n ≡ chunks key salt text i ++ rest)
  chunks-of text zero i within =
      let same : 0 ≡ i = omega (arith, within) in
      ([], ap (chunks key salt text) same ∙ sym (append-nil (chunks key salt text i)))
  chunks-of text (suc n) i within = elim (eq-or-lt_of_le within) [
    | inl same ↦ ([], ap (chunks key salt text) (sym same) ∙ sym (append-nil (chunks key salt text i)))
    | inr less ↦
        let next = chunk key salt n false (piece text n) in
        let (rest, is) = chunks-of text n i (omega (arith, less)) in
        (rest ++ next, ap (λ cs. cs ++ next) is ∙ append_assoc (chunks key salt text i) rest next)
  ]

  -- a file begins with them, and has more
  pub begins-before : (text : List ℕ) (i : ℕ) → i ≤ last_number text
      → (rest : List ℕ) × (sealed key salt text ≡ (header salt ++ chunks key salt text i) ++ rest) × (0 < length rest)
  begins-before text i within =
      let n = last_number text in
      let last = chunk key salt n true (piece text n) in
      let (rest, is) = chunks-of text n i within in (
        rest ++ last,
        ap (λ cs. (header salt ++ cs) ++ last) is
            ∙ ap (λ cs. cs ++ last) (sym (append_assoc (header salt) (chunks key salt text i) rest))
            ∙ append_assoc (header salt ++ chunks key salt text i) rest last,
        omega (arith, length-append rest last, length-chunk key salt n true (piece text n)),
      )

  pub chunks-begin : (text : List ℕ) (i : ℕ) → i ≤ last_number text
      → (rest : List ℕ) × (sealed key salt text ≡ (header salt ++ chunks key salt text i) ++ rest)
  chunks-begin text i within = let (rest, is, _) = begins-before text i within in (rest, is)
