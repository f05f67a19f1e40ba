-- Words that a generator reads out of its buffer, and the buffer that is filled again. The proofs of the reads and
-- of `set_word_pos` cite these. Read `IsUnread` of `GeneratorCore` first, then `RepeatedLemmas`.
use Rattle.std.proofs.Common.{◌≡◌, ℕ, ◌+◌, ◌*◌, ◌/◌, ◌%◌, ◌^◌, ◌<◌, ◌≤◌, List, ◌++◌, length, take, drop, slice_index, arith, refl, sym, ap, ap₂, ◌∙◌, get_or-take, get_or-drop}
use Rattle.std.proofs.lemmas.Slice.{take-put_mid}
use Rattle.std.specs.Int.{w64, to_le_bytes}
use borrow.Rule.Slice.PartMut.{put_mid}
use Rattle.chacha_base.specs.ChaCha.{start, word_bytes, bytes, stream_part, legacy, mix}
use Rattle.chacha_base.proofs.BytesLemmas.{length-bytes, length-words}
use Rattle.chacha_base.proofs.KeystreamLemmas.{streamed_is}
use Rattle.chacha_base.proofs.ListLemmas.{part_long}
use Rattle.chacha_base.specs.State.{fixed_words, state_of, state_at, counter_after, state_after, next_words}
use Rattle.chacha_base.proofs.StateLemmas.{length-state_at, fixed_words-state_after, state_counter-state_after, state_of-start, next_words-at}
use Rattle.chacha20.proofs.GeneratorLemmas.{length-seed_in, generator_is}
use Rattle.chacha20.proofs.RepeatedLemmas.{word-same, fill-words, fill-then}
use Rattle.chacha20.specs.Generator.{GeneratorState, positions, at_word_pos, word, next_u32, next_u64, fill}
use Rattle.chacha20.specs.GeneratorCore.{seed_in, stream_in, generator_of, IsUnread}

-- j words more are used
pub generator_of-taken : (core : List ℕ) (i j e : ℕ) → e ≡ i + j
    → generator_of core e ≡ at_word_pos (generator_of core i) ((generator_of core i).word_pos + j)
generator_of-taken core i j e all = generator_is _ _ refl refl (omega (arith, all))

pub taken : {n : ℕ} {core buffer : List ℕ} {i : ℕ} → IsUnread n core buffer i → (j e : ℕ) → e ≡ i + j → e ≤ 64
    → IsUnread n core buffer e
taken {n} {core} {buffer} {i} held j e all room = record {
  sixteen = held.sixteen;
  start = held.start;
  within = room;
  next = λ k less.
      let place : e + k ≡ i + (j + k) = omega (arith, all) in
      let here : ((generator_of core i).word_pos + (j + k)) % positions
      ≡ ((generator_of core e).word_pos + k) % positions = omega (arith, all) in
      rw place (held.next (j + k) (omega (arith, all))) ∙ word-same n (generator_of core i) _ _ here;
}

-- two words, read one after the other
pub two_reads : {h i : GeneratorState} {low high : ℕ} (n : ℕ) (g : GeneratorState) → (low, h) ≡ next_u32 n g
    → (high, i) ≡ next_u32 n h → (low + 2 ^ 32 * high, i) ≡ next_u64 n g
two_reads n g first then =
    let w = g.word_pos in
    let wrapped : (w + 1) % positions % positions ≡ (w + 1) % positions = omega arith in
    let after : ((w + 1) % positions + 1) % positions ≡ (w + 2) % positions = omega arith in
    let second : next_u32 n (at_word_pos g (w + 1)) ≡ (word n g (w + 1), at_word_pos g (w + 2)) =
    rw (word-same n g _ _ wrapped, after) in
    ap₂ (λ (p q : ℕ × GeneratorState). (p.0 + 2 ^ 32 * q.0, q.1)) first
    (then ∙ ap (λ (p : ℕ × GeneratorState). next_u32 n p.1) first ∙ second)

-- the first of the unread words, and the first two
pub first_read : {n : ℕ} {core buffer : List ℕ} {i : ℕ} → IsUnread n core buffer i → i < 64
    → (slice_index buffer i, generator_of core (i + 1)) ≡ next_u32 n (generator_of core i)
first_read {core = core} {i = i} held less =
    let here : i + 0 ≡ i = omega arith in
    let place : (generator_of core i).word_pos + 0 ≡ (generator_of core i).word_pos = omega arith in
    ap₂ (λ x h. (x, h)) (rw (here, place) at (held.next 0 (omega arith))) (generator_of-taken core i 1 _ refl)

pub two_read : {n : ℕ} {core buffer : List ℕ} {i : ℕ} → IsUnread n core buffer i → i + 1 < 64
    → (slice_index buffer i + 2 ^ 32 * slice_index buffer (i + 1), generator_of core (i + 2))
    ≡ next_u64 n (generator_of core i)
two_read {i = i} held room =
    let next : i + 2 ≡ i + 1 + 1 = omega arith in
    rw next (two_reads _ _ (first_read held (omega arith)) (first_read (taken held 1 _ refl (omega arith)) room))

-- the next k words
next_unread : {n : ℕ} {core buffer : List ℕ} {i : ℕ} → IsUnread n core buffer i → (k : ℕ) → i + k ≤ 64
    → length buffer ≡ 64
    → take k (drop i buffer) ≡ stream_part (word n (generator_of core i)) (generator_of core i).word_pos k
next_unread {n} {core} {buffer} {i} held k room size =
    let g = generator_of core i in
    streamed_is (word n g) g.word_pos k (take k (drop i buffer)) (part_long i k buffer (omega arith))
    (λ j less. get_or-take k (drop i buffer) j 0 less ∙ get_or-drop i buffer j 0 ∙ held.next j (omega arith))

-- the core has made the words of the buffer, and none is used
pub refilled : {n used : ℕ} {core buffer next made : List ℕ} → IsUnread n core buffer used
    → next ≡ state_after legacy 4 core → made ≡ next_words n legacy core → IsUnread n next made 0
refilled {n} {core = core} {next = next} held moved words =
    let long = held.sixteen in
    let fixed = fixed_words-state_after legacy 4 core next long moved in
    let counter = state_counter-state_after legacy 4 core next long moved in
    let g = generator_of next 0 in
    let again : (c : ℕ) → state_at legacy c core ≡ start legacy g.seed (to_le_bytes w64 g.stream) c =
    λ c. rw fixed
    (ap (λ f. state_of legacy f c) held.start
    ∙ state_of-start legacy (seed_in (fixed_words legacy core))
    (to_le_bytes w64 (stream_in (fixed_words legacy core))) c (length-words 8 _ (length-seed_in core long))) in
    record {
      sixteen = ap length moved ∙ length-state_at legacy (counter_after legacy core 4) core long;
      start = rw fixed held.start;
      within = omega arith;
      next = λ k less.
          let w = g.word_pos + k in
          let block : counter_after legacy core (k / 16) ≡ w % positions / 16 = omega (arith, counter) in
          let place : k % 16 ≡ w % 16 = omega arith in
          let here : 0 + k ≡ k = omega arith in
          rw (words, here)
          (next_words-at n legacy core k (omega arith)
          ∙ ap₂ (λ d i. slice_index (mix n (state_at legacy d core)) i) block place
          ∙ ap (λ s. slice_index (mix n s) (w % 16)) (again (w % positions / 16)));
    }

pub generator_of-refilled : (core next : List ℕ) → length core ≡ 16 → next ≡ state_after legacy 4 core
    → generator_of next 0 ≡ generator_of core 64
generator_of-refilled core next long moved =
    let fixed = fixed_words-state_after legacy 4 core next long moved in
    generator_is _ _ (ap seed_in fixed) (ap stream_in fixed)
    (omega (arith, state_counter-state_after legacy 4 core next long moved))

-- so many words of a fill are written to dst, and the generator has read them
pub record FilledTo (n : ℕ) (rng : GeneratorState) (done : ℕ) (core buffer : List ℕ) (i : ℕ) (dst : List ℕ)
    : Type 0 where
  pub unread : IsUnread n core buffer i
  pub long : length buffer ≡ 64
  pub filled : (take (4 * done) dst, generator_of core i) ≡ fill n rng (4 * done)

-- k words more, behind those before them
pub words-more : {n : ℕ} {rng : GeneratorState} {done : ℕ} {core buffer : List ℕ} {i : ℕ} {dst part : List ℕ}
    → FilledTo n rng done core buffer i dst → (k width : ℕ) → i + k ≤ 64 → 4 * (done + k) ≤ length dst
    → part ≡ bytes (take k (drop i buffer))
    → FilledTo n rng (done + k) core buffer (i + k) (put_mid (4 * done) width dst part)
words-more {n} {rng} {done} {core} {buffer} {i} {dst} {part} held k width room fits made =
    let count = part_long i k buffer (omega (arith, room, held.long)) in
    let size : length part ≡ 4 * k = omega (arith, ap length made, length-bytes (take k (drop i buffer)), count) in
    let all : 4 * (done + k) ≡ 4 * done + 4 * k = omega arith in
    let next : (part, generator_of core (i + k)) ≡ fill n (generator_of core i) (4 * k) =
    ap₂ (λ ys h. (ys, h)) (made ∙ ap bytes (next_unread held.unread k room held.long))
    (generator_of-taken core i k _ refl) ∙ sym (fill-words n k (generator_of core i)) in
    record {
      unread = taken held.unread k _ refl room;
      long = held.long;
      filled = ap (λ ys. (ys, generator_of core (i + k))) (take-put_mid (4 * done) width dst part (4 * (done + k))
          (omega (arith, size)) (omega (arith, fits)))
          ∙ fill-then n done (4 * k) rng held.filled next
          ∙ ap (fill n rng) (sym all);
    }

-- whole words, and r bytes behind them, which take one word
pub filled-over : {h i : GeneratorState} {x : ℕ} {last : List ℕ} {front : List ℕ} (n q r : ℕ) (g : GeneratorState)
    → (r + 3) / 4 ≡ 1 → (front, h) ≡ fill n g (4 * q) → (x, i) ≡ next_u32 n h → last ≡ take r (word_bytes x)
    → (front ++ last, i) ≡ fill n g (4 * q + r)
filled-over {h} {i} n q r g one whole read cut =
    let filled : ℕ → List ℕ × GeneratorState =
    λ k. (take r (bytes (stream_part (word n h) h.word_pos k)), at_word_pos h (h.word_pos + k)) in
    fill-then n q r g whole (ap (λ y. (y, i)) cut
    ∙ ap (λ (p : ℕ × GeneratorState). (take r (word_bytes p.0), p.1)) read
    ∙ ap filled (sym one))
