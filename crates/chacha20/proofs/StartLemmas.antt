-- Start states: written part by part, and the blocks from one on; and the derived nonce of XChaCha. The proofs of `new`
-- of each core cite these, and proofs of callers may. Read `start` of `ChaCha` and `XChaCha` first.
use Rattle.std.proofs.Common.{◌≡◌, ℕ, ◌*◌, List, ◌++◌, length, take, drop, replicate, refl, sym, ap, ◌∙◌}
use Rattle.std.proofs.Math.Nat.{zero-mod}
use Rattle.std.proofs.Math.Path.{fun_ext}
use borrow.Rule.Slice.PartMut.{put_mid}
use lib.Lanes.{chunk, put_chunk}
use Rattle.chacha_base.specs.ChaCha.{constants, start, block, bytes, Layout, modulus, mix}
use Rattle.chacha_base.specs.State.{state_counter, state_block, fixed_words}
use Rattle.chacha_base.proofs.BytesLemmas.{length-words}
use Rattle.chacha_base.proofs.ListLemmas.{words_of, by_words}
use Rattle.chacha_base.proofs.StateLemmas.{state_counter-start, fixed_words-start, start-wrapped, state_of-start}
use Rattle.chacha20.specs.XChaCha.{subnonce}

-- the constants and twelve zeros, with a key of eight written over these, and then a row of four, as one vector
abbrev Written : List ℕ → List ℕ → Type 0
Written key row =
    let keyed = put_mid 4 8 (constants ++ replicate 12 0) key in
    put_mid 12 4 keyed (put_chunk 0 (take 4 (drop 12 keyed)) (chunk 0 4 row)) ≡ constants ++ key ++ row

pub written : (key row : List ℕ) → length key ≡ 8 → length row ≡ 4 → Written key row
written key row eight four =
    by_words 8 (λ k. Written k row) key eight (by_words 4 (Written (words_of 8 key)) row four refl)

-- the blocks of the start state of a key and a nonce
pub blocks-of-start : (n : ℕ) (layout : Layout) (key nonce s : List ℕ) → length key ≡ 32 → s ≡ start layout key nonce 0
    → state_block n layout (fixed_words layout s) ≡ block n layout key nonce
blocks-of-start n layout key nonce s long same =
    let eight = length-words 8 key long in
    fun_ext (λ c.
    ap (λ f. state_block n layout f c) (ap (fixed_words layout) same ∙ fixed_words-start layout key nonce 0 eight)
    ∙ ap (λ t. bytes (mix n t)) (state_of-start layout key nonce c eight ∙ sym (start-wrapped layout key nonce c)))

-- and its counter
pub first-of-start : (layout : Layout) (key nonce s : List ℕ) → length key ≡ 32 → s ≡ start layout key nonce 0
    → 64 * state_counter layout s ≡ 0
first-of-start layout key nonce s long same =
    rw (same, state_counter-start layout key nonce 0 (length-words 8 key long), zero-mod (modulus layout))

-- the last eight bytes of a nonce of 24, written behind four of twelve zeros
pub subnonce_written : (nonce back : List ℕ) → length nonce ≡ 24 → back ≡ take 8 (drop 16 nonce)
    → put_mid 4 8 (replicate 12 0) back ≡ subnonce nonce
subnonce_written nonce back whole last =
    rw last (by_words 24 (λ v. put_mid 4 8 (replicate 12 0) (take 8 (drop 16 v)) ≡ subnonce v) nonce whole refl)
