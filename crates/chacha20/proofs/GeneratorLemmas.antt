-- When two generators are equal. The seed and the stream, read back from the words of a state, and the generator that
-- they make with its counter. The proofs of construction, of `set_stream`, of `==` and of `run_rng`, and the other
-- lemma files on generators, cite these. Read `GeneratorCore` and `same_generator` of `Generator` first.
use Rattle.std.proofs.Common.{◌≡◌, Decides, ℕ, ◌*◌, ◌/◌, ◌%◌, ◌^◌, ◌<◌, List, [], ◌∷◌, ◌++◌, length, take, arith, refl, ap, ◌∙◌, take_at, drop_at, length-append}
use Rattle.std.specs.Cmp.Lexicographic.{pointwise_decides}
use Rattle.std.specs.Int.{w64, to_le_bytes, from_le_bytes}
use Rattle.std.proofs.lemmas.Bool.Decides.{Decides-and, Decides-eqb, Decides-like}
use Rattle.chacha_base.specs.ChaCha.{bytes, words, constants, start, legacy}
use Rattle.chacha_base.specs.State.{state_counter, state_at, fixed_words}
use Rattle.chacha_base.proofs.StateLemmas.{length-state_at, fixed_words-state_at, fixed_words-start, state_counter-start}
use Rattle.chacha_base.proofs.BytesLemmas.{Bytes, bytes-below, bytes-words, length-words, words-to_le_bytes, from_le_bytes-bytes}
use Rattle.chacha_base.proofs.ListLemmas.{by_words}
use Rattle.chacha20.specs.Generator.{GeneratorState, same_generator}
use Rattle.chacha20.specs.GeneratorCore.{seed_in, stream_in, IsStart, generator_of, IsUnread}

pub length-seed_in : (core : List ℕ) → length core ≡ 16 → length (seed_in (fixed_words legacy core)) ≡ 32
length-seed_in core long = by_words 16 (λ s. length (seed_in (fixed_words legacy s)) ≡ 32) core long refl

-- generators with the same parts are one
pub generator_is : (g h : GeneratorState) → g.seed ≡ h.seed → g.stream ≡ h.stream → g.word_pos ≡ h.word_pos → g ≡ h
generator_is g h seeds streams positions = λ i. record { seed = seeds i; stream = streams i; word_pos = positions i }

-- they are equal exactly where each of their parts is
pub same-Decides : (a b : GeneratorState) → Decides (same_generator a b) (a ≡ b)
same-Decides a b =
    Decides-like _ (λ same. generator_is a b same.1.1 same.1.0 same.0)
    (λ one. (ap (λ g. g.word_pos) one, (ap (λ g. g.stream) one, ap (λ g. g.seed) one)))
    (Decides-and _ _ (Decides-eqb a.word_pos b.word_pos)
    (Decides-and _ _ (Decides-eqb a.stream b.stream) (pointwise_decides Decides-eqb a.seed b.seed)))

-- a core at whose buffer no word is left
pub unread-none : (n : ℕ) (core buffer : List ℕ) → length core ≡ 16 → IsStart (fixed_words legacy core)
    → IsUnread n core buffer 64
unread-none n core buffer long own = record {
  sixteen = long;
  start = own;
  within = omega arith;
  next = λ k less. absurd (omega arith);
}

-- the core with another counter: none either, and the same seed and stream
pub unread-recounted : {n used : ℕ} {core next buffer : List ℕ} (c : ℕ) (other : List ℕ) → IsUnread n core buffer used
    → next ≡ state_at legacy c core → IsUnread n next other 64
unread-recounted {core = core} c other held moved =
    unread-none _ _ other (ap length moved ∙ length-state_at legacy c core held.sixteen)
    (rw (moved, fixed_words-state_at legacy c core held.sixteen) held.start)

pub generator_of-recounted : {c : ℕ} {g : GeneratorState} (core next : List ℕ) (used : ℕ)
    → fixed_words legacy next ≡ fixed_words legacy core → state_counter legacy next ≡ c → c < 2 ^ 64
    → generator_of core used ≡ g → generator_of next 64 ≡ record g { word_pos = 16 * c }
generator_of-recounted core next used fixed counter less same =
    generator_is _ _ (ap seed_in fixed ∙ ap (λ (h : GeneratorState). h.seed) same)
    (ap stream_in fixed ∙ ap (λ (h : GeneratorState). h.stream) same) (omega (arith, counter))

-- a core that is the start state of this seed and stream
pub record Starts (core seed : List ℕ) (stream : ℕ) : Type 0 where
  pub long : length seed ≡ 32
  pub fits : Bytes seed
  pub below : stream < 2 ^ 64
  pub state : core ≡ start legacy seed (to_le_bytes w64 stream) 0

-- one whose stream is set, and then its counter
pub starts-renonced : {n used stream : ℕ} {core buffer next renonced : List ℕ} → IsUnread n core buffer used
    → stream < 2 ^ 64 → renonced ≡ take 14 core ++ words (to_le_bytes w64 stream) → next ≡ state_at legacy 0 renonced
    → Starts next (seed_in (fixed_words legacy core)) stream
starts-renonced {stream = stream} {core = core} held below written moved =
    let long = length-seed_in core held.sixteen in
    let seed = seed_in (fixed_words legacy core) in
    let nonce = words (to_le_bytes w64 stream) in
    let front : length (constants ++ words seed) ≡ 12 = omega (arith, length-words 8 seed long) in
    record {
      long = long;
      fits = bytes-below _;
      below = below;
      state = moved
          ∙ ap (state_at legacy 0) written
          ∙ by_words 16 (λ s. state_at legacy 0 (take 14 s ++ nonce)
          ≡ take 12 (fixed_words legacy s) ++ (0 ∷ 0 ∷ []) ++ nonce) core held.sixteen refl
          ∙ ap (λ f. f ++ (0 ∷ 0 ∷ []) ++ nonce) (ap (take 12) held.start
          ∙ take_at (constants ++ words seed) _ 12 front);
    }

module _ {core seed : List ℕ} {stream : ℕ} (is : Starts core seed stream) where
  starts-fixed : fixed_words legacy core ≡ constants ++ words seed ++ words (to_le_bytes w64 stream)
  starts-fixed =
      ap (fixed_words legacy) is.state
      ∙ fixed_words-start legacy seed (to_le_bytes w64 stream) 0 (length-words 8 seed is.long)

  -- its seed and its stream
  starts-seed : seed_in (fixed_words legacy core) ≡ seed
  starts-seed =
      let key = take_at (words seed) (words (to_le_bytes w64 stream)) 8 (length-words 8 seed is.long) in
      rw (starts-fixed, key) (bytes-words 8 seed is.long is.fits)

  starts-stream : stream_in (fixed_words legacy core) ≡ stream
  starts-stream =
      let nonce = drop_at (words seed) (words (to_le_bytes w64 stream)) 8 (length-words 8 seed is.long) in
      rw (starts-fixed, nonce) (ap (λ ws. from_le_bytes w64 (bytes ws)) (words-to_le_bytes stream is.below)
      ∙ from_le_bytes-bytes (stream % 2 ^ 32) (stream / 2 ^ 32) (omega arith) (omega arith) ∙ omega arith)

  -- no word of its buffer is left, and its generator is at the start of the stream
  pub unread-start : (n : ℕ) (buffer : List ℕ) → IsUnread n core buffer 64
  unread-start n buffer =
      let eight = length-words 8 seed is.long in
      unread-none n core buffer (ap length is.state ∙ simp (length-append, eight))
      (rw (starts-seed, starts-stream) starts-fixed)

  pub generator_of-start : generator_of core 64 ≡ record { seed = seed; stream = stream; word_pos = 0 }
  generator_of-start =
      let counter = ap (state_counter legacy) is.state
      ∙ state_counter-start legacy seed (to_le_bytes w64 stream) 0 (length-words 8 seed is.long) in
      generator_is _ _ starts-seed starts-stream (omega (arith, counter))
