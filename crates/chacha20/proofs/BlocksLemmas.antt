-- Blocks written, and bytes XORed with blocks, group by group, as the engine does it. The proofs of
-- `write_keystream_blocks`, `apply_through` and `xor_blocks` cite these. Read `xored_at` and `applied` of `Blocks`
-- first.
use Rattle.std.proofs.Common.{◌≡◌, ℕ, ◌+◌, ◌*◌, ◌/◌, ◌%◌, ◌<◌, ◌≤◌, Some, List, [], ◌++◌, length, take, drop, slice_get, slice_index, slice_index_or, arith, refl, sym, ap, ap₂, ◌∙◌, append_assoc, length-drop, length-take-le, take_at, drop_at, drop-drop}
use borrow.Rule.Slice.PartMut.{put_mid, same_len_mid}
use Rattle.std.proofs.lemmas.Option.{get_or_from_slice_get}
use Rattle.std.proofs.lemmas.Slice.{take-put_mid}
use Rattle.chacha_base.specs.ChaCha.{Layout, modulus, keystream, xor_stream, bytes, mix}
use Rattle.chacha_base.specs.State.{state_counter, fixed_words, state_block, state_after, AreNextBlocks}
use Rattle.chacha_base.proofs.StateLemmas.{fixed_words-state_after, state_counter-state_after, state_after-state_after, state_after-more, next_blocks-more}
use Rattle.chacha_base.proofs.KeystreamLemmas.{xor_stream-same, xor_stream-more, keystream-wrapped, length-xor_stream}
use Rattle.chacha_base.proofs.ListLemmas.{part_long}
use Rattle.chacha20.specs.Blocks.{byte_of, xored_at, state_stream, applied}

-- bytes XORed with block i
pub xor_stream-one : (blocks : List (List ℕ)) (p i : ℕ) (xs : List ℕ) → p ≡ 64 * i → length xs ≤ 64
    → xor_stream (slice_index (slice_index_or blocks i [])) 0 xs ≡ xor_stream (byte_of blocks) p xs
xor_stream-one blocks p i xs place short =
    xor_stream-same (slice_index (slice_index_or blocks i [])) (byte_of blocks) 0 p xs (λ j less.
    let which : (p + j) / 64 ≡ i = omega arith in
    let part : (p + j) % 64 ≡ j = omega arith in
    let here : 0 + j ≡ j = omega arith in
    rw (which, part, here) refl)

-- blocks of a stream from a counter on
xor_stream-blocks : (modulus : ℕ) (block : ℕ → List ℕ) (c : ℕ) (blocks : List (List ℕ)) (xs : List ℕ)
    → length xs ≡ 64 * length blocks
    → ((i : ℕ) → i < length blocks → slice_get blocks i ≡ Some (block ((c + i) % modulus)))
    → xor_stream (byte_of blocks) 0 xs ≡ xor_stream (keystream modulus block) (64 * c) xs
xor_stream-blocks modulus block c blocks xs whole made =
    xor_stream-same (byte_of blocks) (keystream modulus block) 0 (64 * c) xs (λ i less.
    let which : (64 * c + i) / 64 ≡ c + i / 64 = omega arith in
    let part : (64 * c + i) % 64 ≡ i % 64 = omega arith in
    let here : 0 + i ≡ i = omega arith in
    rw (which, part, here)
    (ap (λ b. slice_index b (i % 64)) (get_or_from_slice_get blocks (i / 64) _ [] (made (i / 64) (omega arith)))))

-- blocks that are written: the first `a` from the state s on, and a state t that goes on behind them
pub record AreMade (n : ℕ) (layout : Layout) (s : List ℕ) (a : ℕ) (t : List ℕ) (now : List (List ℕ))
    : Type 0 where
  pub within : a ≤ length now
  pub goes_on : (j : ℕ) → state_after layout j t ≡ state_after layout (a + j) s
  pub done : AreNextBlocks n layout s a now

pub none-made : {n : ℕ} {layout : Layout} (s : List ℕ) (now : List (List ℕ)) → AreMade n layout s 0 s now
none-made {layout = layout} s now = record {
  within = omega arith;
  goes_on = λ j. let all : j ≡ 0 + j = omega arith in ap (λ i. state_after layout i s) all;
  done = λ i none. absurd (omega arith);
}

-- and the next k, as a call made them: then the state is the one behind them
pub made-more : {n : ℕ} {layout : Layout} {s t u : List ℕ} {a : ℕ} {now : List (List ℕ)} (k e : ℕ)
    (part : List (List ℕ)) → length s ≡ 16 → AreMade n layout s a t now → a + k ≡ e → e ≤ length now
    → (let l = length (take k (drop a now)) in
    length part ≡ l → AreNextBlocks n layout t l part → u ≡ state_after layout l t
    → AreMade n layout s e u (put_mid a k now part) × (u ≡ state_after layout e s))
made-more {n} {layout} {s} {t} {u} {a} {now} k e part sixteen held all room count made moved =
    let long = part_long a k now (omega arith) in
    let behind : u ≡ state_after layout e s =
    let sum : a + length (take k (drop a now)) ≡ e = omega (arith, long) in
    moved ∙ held.goes_on _ ∙ ap (λ i. state_after layout i s) sum in (
      record {
        within = omega (arith, same_len_mid a k now part count);
        goes_on = λ j. ap (state_after layout j) behind ∙ state_after-state_after layout e j s sixteen;
        done = rw (← all) (next_blocks-more n layout s (state_after layout a s) a k now part sixteen refl held.within
            (count ∙ long) held.done (λ j less. made j (omega (arith, long))
            ∙ ap (λ w. Some (bytes (mix n w))) (held.goes_on j ∙ sym (state_after-state_after layout a j s sixteen))));
      },
      behind,
    )

-- bytes that are combined, k of them: i blocks on from the state s and the bytes old
pub record IsAt (n : ℕ) (layout : Layout) (k : ℕ) (s old : List ℕ) (i : ℕ) (t now : List ℕ) : Type 0 where
  pub sixteen : length s ≡ 16
  pub before : length old ≡ k
  pub long : length now ≡ k
  pub state : t ≡ state_after layout i s
  pub bytes : now ≡ applied n layout s (take (64 * i) old) ++ drop (64 * i) old

-- and after the next l blocks of its state, where `so_far` has the bytes by how many are combined
pub at-more : {n k : ℕ} {layout : Layout} {s old t now u : List ℕ} {i l e : ℕ} (blocks : List (List ℕ))
    → IsAt n layout k s old i t now → length blocks ≡ l → AreNextBlocks n layout t l blocks → u ≡ state_after layout l t
    → (so_far : ℕ → List ℕ) → so_far (64 * (i + length blocks)) ≡ xored_at i blocks now → i + l ≡ e
    → 64 * e ≤ k → IsAt n layout k s old e u (so_far (64 * e))
at-more {n} {k} {layout} {s} {old} {t} {now} {i = i} {l = l} {e = e} blocks held count made moved so_far done all room =
    let m = modulus layout in
    let c = state_counter layout s in
    let size = 64 * length blocks in
    let part = take size (drop (64 * i) now) in
    let whole = length-take-le size (drop (64 * i) now) (omega (arith, held.long, length-drop (64 * i) now)) in
    let end : e ≡ i + length blocks = omega arith in
    let xored = ap (λ i. so_far (64 * i)) end ∙ done in
    record {
      sixteen = held.sixteen;
      before = held.before;
      long = rw xored (same_len_mid (64 * i) size now _ (length-xor_stream (byte_of blocks) 0 part) ∙ held.long);
      state = state_after-more layout s t _ i l e held.sixteen held.state moved all;
      bytes = xored
          ∙ xor_stream-more (state_stream n layout s) (64 * c) (64 * i) size old
          (omega arith) (omega (arith, held.before))
          held.bytes
          (xor_stream-blocks m (state_block n layout (fixed_words layout t)) (state_counter layout t) blocks part whole
          (λ j less. made j (omega arith))
          ∙ ap₂ (λ f d. xor_stream (keystream m (state_block n layout f)) (64 * d) part)
          (fixed_words-state_after layout i s t held.sixteen held.state)
          (state_counter-state_after layout i s t held.sixteen held.state)
          ∙ keystream-wrapped m (state_block n layout (fixed_words layout s)) (c + i) (64 * c + 64 * i) part
          (omega arith));
    }

-- the blocks from block `first` on, combined between an input and an output
pub xored_at-between : {k e : ℕ} {part : List ℕ} (first : ℕ) (blocks : List (List ℕ)) (input output : List ℕ)
    → k ≡ 64 * length blocks → e ≡ 64 * first + k → e ≤ length input → e ≤ length output
    → part ≡ xor_stream (byte_of blocks) 0 (take k (drop (64 * first) input))
    → take e (put_mid (64 * first) k output part) ++ drop e input
    ≡ xored_at first blocks (take (64 * first) output ++ drop (64 * first) input)
xored_at-between {k} {e} {part} first blocks input output wide ends inside room made =
    let at = 64 * first in
    let front = take at output in
    let rest = drop at input in
    let size = length-take-le at output (omega arith) in
    let long : length part ≡ k =
    ap length made ∙ length-xor_stream (byte_of blocks) 0 (take k rest) ∙ part_long at k input (omega arith) in
    rw (take_at front rest at size, drop_at front rest at size, ← wide, ← made)
    (ap (λ xs. xs ++ drop e input) (take-put_mid at k output part e (omega arith) (omega arith))
    ∙ append_assoc front part (drop e input)
    ∙ ap (λ xs. front ++ (part ++ xs)) (ap (λ n. drop n input) ends ∙ sym (drop-drop k at input)))
