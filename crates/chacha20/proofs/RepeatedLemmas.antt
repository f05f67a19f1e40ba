-- Reads of a generator, one after another, for proofs about simulations that draw in parts.
use Rattle.std.proofs.Common.{◌≡◌, ℕ, zero, suc, ◌+◌, ◌*◌, ◌/◌, ◌-◌, ◌%◌, ◌<◌, List, [], ◌∷◌, ◌++◌, length, take, map, slice_index, arith, refl, sym, ap, ap₂, ◌∙◌, take_all}
use Rattle.std.proofs.Math.Seq.{get_or-append_seam, take-append-add}
use Rattle.std.proofs.lemmas.List.{map-append, take_more_set}
use Rattle.std.proofs.lemmas.List.Sums.{fold_push}
use Rattle.std.specs.Prelude.{slice_set}
use Rattle.std.specs.List.{fold}
use Rattle.std.specs.Int.{w64, to_le_bytes}
use Rattle.chacha_base.specs.ChaCha.{start, bytes, stream_part, legacy, mix}
use Rattle.chacha_base.proofs.BytesLemmas.{bytes-append, length-bytes}
use Rattle.chacha_base.proofs.KeystreamLemmas.{length-stream_part, stream_part-same, stream_part-add}
use Rattle.chacha20.specs.Generator.{GeneratorState, positions, of_seed, at_word_pos, word, next_u64, fill, repeated}

-- positions that are the same when they wrap have the same word
pub word-same : (n : ℕ) (g : GeneratorState) (v w : ℕ) → v % positions ≡ w % positions → word n g v ≡ word n g w
word-same n g v w same =
    let place : v % 16 ≡ w % 16 = omega (arith, same) in
    ap₂ (λ p i. slice_index (mix n (start legacy g.seed (to_le_bytes w64 g.stream) (p / 16))) i) same place

-- they have the same words from there on
pub words-same : (n : ℕ) (g : GeneratorState) (v w k : ℕ) → v % positions ≡ w % positions
    → stream_part (word n g) v k ≡ stream_part (word n g) w k
words-same n g v w k same =
    stream_part-same (word n g) (word n g) v w k (λ i less.
    let here : (v + i) % positions ≡ (w + i) % positions = omega (arith, same) in word-same n g _ _ here)

-- a generator at the one is the generator at the other
pub at-same : (g : GeneratorState) (v w : ℕ) → v % positions ≡ w % positions → at_word_pos g v ≡ at_word_pos g w
at-same g v w same = ap (λ p. record g { word_pos = p }) same

-- k reads have k answers
pub length-repeated : {A : Type 0} (read : GeneratorState → A × GeneratorState) (k : ℕ) (g : GeneratorState)
    → length (repeated read k g).0 ≡ k
length-repeated read zero g = refl
length-repeated read (suc k) g = ap suc (length-repeated read k (read g).1)

-- k reads and then m are k + m reads
pub reads-add : {A : Type 0} (read : GeneratorState → A × GeneratorState) (k m : ℕ) (g : GeneratorState)
    → repeated read (k + m) g
    ≡ (let first = repeated read k g in let rest = repeated read m first.1 in (first.0 ++ rest.0, rest.1))
reads-add read zero m g = let none : 0 + m ≡ m = omega arith in rw none
reads-add read (suc k) m g =
    let more : suc k + m ≡ suc (k + m) = omega arith in rw (more, reads-add read k m (read g).1)

-- the same of two calls, one after another
pub reads-then : {A : Type 0} {h i : GeneratorState} {xs ys : List A} (read : GeneratorState → A × GeneratorState)
    (k m : ℕ) (g : GeneratorState) → (xs, h) ≡ repeated read k g → (ys, i) ≡ repeated read m h
    → (xs ++ ys, i) ≡ repeated read (k + m) g
reads-then read k m g first then = rw (reads-add read k m g, ← first, ← then)

-- one read more, as a loop makes it
pub reads-more : {A : Type 0} {h i : GeneratorState} {xs : List A} {x : A} (read : GeneratorState → A × GeneratorState)
    (k : ℕ) (g : GeneratorState) → (xs, h) ≡ repeated read k g → (x, i) ≡ read h
    → (xs ++ x ∷ [], i) ≡ repeated read (k + 1) g
reads-more {A} read k g before now =
    reads-then read k 1 g before (ap (λ (a : A × GeneratorState). (a.0 ∷ [], a.1)) now)

-- of m reads, number i is the first after i reads
pub reads-nth : (read : GeneratorState → ℕ × GeneratorState) (i m : ℕ) (g : GeneratorState) → i < m
    → slice_index (repeated read m g).0 i ≡ (read (repeated read i g).1).0
reads-nth read i m g inside =
    let k = m - suc i in
    let first = repeated read i g in
    let here = read first.1 in
    let rest = repeated read k here.1 in
    let all : m ≡ i + suc k = omega (arith, inside) in
    ap (λ n. slice_index (repeated read n g).0 i) all
    ∙ ap (λ (a : List ℕ × GeneratorState). slice_index a.0 i) (reads-add read i (suc k) g)
    ∙ ap (λ j. slice_index (first.0 ++ here.0 ∷ rest.0) j) (sym (length-repeated read i g))
    ∙ get_or-append_seam first.0 here.0 rest.0 0

-- one read more, as a loop makes it that writes f of each read into a slice: what it has written, and the generator
pub reads-mapped : {A B : Type 0} {h i : GeneratorState} {y : B} (f : A → B)
    (read : GeneratorState → A × GeneratorState) (k : ℕ) (g : GeneratorState) (xs : List B) → k < length xs
    → h ≡ (repeated read k g).1 → take k xs ≡ map f (repeated read k g).0 → y ≡ f (read h).0 → i ≡ (read h).1
    → (take (k + 1) (slice_set xs k y) ≡ map f (repeated read (k + 1) g).0) × (i ≡ (repeated read (k + 1) g).1)
reads-mapped {A} {y = y} f read k g xs inside moved written answer after =
    let before = repeated read k g in
    let next = read before.1 in
    let all : (before.0 ++ next.0 ∷ [], next.1) ≡ repeated read (k + 1) g = reads-more read k g refl refl in (
      take_more_set xs k y inside
          ∙ ap₂ (λ front z. front ++ z ∷ []) written (answer ∙ ap (λ s. f (read s).0) moved)
          ∙ sym (map-append f before.0 (next.0 ∷ [])) ∙ ap (λ (a : List A × GeneratorState). map f a.0) all,
      after ∙ ap (λ s. (read s).1) moved ∙ ap (λ (a : List A × GeneratorState). a.1) all,
    )

-- one read more, as a loop makes it that folds its reads, such as a count or a sum: what it has folded, and the
-- generator
pub reads-folded : {A S : Type 0} {h i : GeneratorState} {x : A} {now : S} (step : S → A → S) (none : S)
    (read : GeneratorState → A × GeneratorState) (k : ℕ) (g : GeneratorState) → h ≡ (repeated read k g).1
    → now ≡ fold step none (repeated read k g).0 → x ≡ (read h).0 → i ≡ (read h).1
    → (step now x ≡ fold step none (repeated read (k + 1) g).0) × (i ≡ (repeated read (k + 1) g).1)
reads-folded {A} {x = x} step none read k g moved folded answer after =
    let before = repeated read k g in
    let next = read before.1 in
    let all : (before.0 ++ next.0 ∷ [], next.1) ≡ repeated read (k + 1) g = reads-more read k g refl refl in (
      ap₂ step folded (answer ∙ ap (λ s. (read s).0) moved)
          ∙ sym (fold_push step none before.0 next.0)
          ∙ ap (λ (a : List A × GeneratorState). fold step none a.0) all,
      after ∙ ap (λ s. (read s).1) moved ∙ ap (λ (a : List A × GeneratorState). a.1) all,
    )

-- a fill of whole words
pub fill-words : (n k : ℕ) (g : GeneratorState)
    → fill n g (4 * k) ≡ (bytes (stream_part (word n g) g.word_pos k), at_word_pos g (g.word_pos + k))
fill-words n k g =
    let words = stream_part (word n g) g.word_pos k in
    let count : (4 * k + 3) / 4 ≡ k = omega arith in
    let whole = take_all (4 * k) (bytes words)
    (omega (arith, length-bytes words, length-stream_part (word n g) g.word_pos k)) in
    rw (count, whole)

-- a fill of whole words, and then another, are one fill
pub fill-add : (n k len : ℕ) (g : GeneratorState)
    → fill n g (4 * k + len)
    ≡ (let first = fill n g (4 * k) in let rest = fill n first.1 len in (first.0 ++ rest.0, rest.1))
fill-add n k len g =
    let w = g.word_pos in
    let m = (len + 3) / 4 in
    let front = stream_part (word n g) w k in
    let behind = stream_part (word n g) (w + k) m in
    let none : (4 * k + 3) / 4 ≡ k = omega arith in
    let count : (4 * k + len + 3) / 4 ≡ k + m = omega arith in
    let size : 4 * k ≡ length (bytes front) = omega (arith, length-bytes front, length-stream_part (word n g) w k) in
    let whole = take_all (4 * k) (bytes front) (omega (arith, size)) in
    let cut : take (4 * k + len) (bytes front ++ bytes behind) ≡ bytes front ++ take len (bytes behind) =
    ap (λ e. take (e + len) (bytes front ++ bytes behind)) size ∙ take-append-add (bytes front) (bytes behind) len in
    let wrapped : (w + k) % positions ≡ (w + k) % positions % positions = omega arith in
    let after : (w + (k + m)) % positions ≡ ((w + k) % positions + m) % positions = omega arith in
    let again = words-same n g _ _ m wrapped in
    rw (none, count, whole, stream_part-add (word n g) w k m, bytes-append front behind, cut, again, after)

-- the same of two calls, one after another
pub fill-then : {h i : GeneratorState} {xs ys : List ℕ} (n k len : ℕ) (g : GeneratorState)
    → (xs, h) ≡ fill n g (4 * k) → (ys, i) ≡ fill n h len → (xs ++ ys, i) ≡ fill n g (4 * k + len)
fill-then {xs = xs} n k len g first then =
    let both : List ℕ × GeneratorState → List ℕ × GeneratorState =
    λ a. let rest = fill n a.1 len in (a.0 ++ rest.0, rest.1) in
    ap (λ (a : List ℕ × GeneratorState). (xs ++ a.0, a.1)) then ∙ ap both first ∙ sym (fill-add n k len g)

-- k words of 64 bits, read one by one: the generator after them
pub reads-next_u64 : (n k : ℕ) (g : GeneratorState) → g.word_pos < positions
    → (repeated (next_u64 n) k g).1 ≡ at_word_pos g (g.word_pos + 2 * k)
reads-next_u64 n zero g below =
    let here : (g.word_pos + 2 * 0) % positions ≡ g.word_pos = omega (arith, below) in rw here
reads-next_u64 n (suc k) g below =
    let w = g.word_pos in
    let after : ((w + 2) % positions + 2 * k) % positions ≡ (w + 2 * suc k) % positions = omega arith in
    rw (reads-next_u64 n k (at_word_pos g (w + 2)) (omega arith), after)

-- the same of the generator of a seed
pub reads-next_u64_of_seed : (n k : ℕ) (seed : List ℕ)
    → (repeated (next_u64 n) k (of_seed seed)).1 ≡ at_word_pos (of_seed seed) (2 * k)
reads-next_u64_of_seed n k seed =
    let here : 0 + 2 * k ≡ 2 * k = omega arith in
    reads-next_u64 n k (of_seed seed) (omega arith) ∙ ap (at_word_pos (of_seed seed)) here
