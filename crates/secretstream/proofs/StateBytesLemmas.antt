-- States as bytes, written and read back: each state has 44 bytes, and no others.
use Rattle.std.proofs.Common.{◌≡◌, ◌<◌, ◌^◌, ◌++◌, ◌∙◌, ℕ, List, length, take, drop, arith, refl, sym, ap, ap₂, take_at, drop_at, length-append, length-drop, length-take-le, inl, inr, subst}
use Rattle.std.proofs.lemmas.Bool.{cases_lt}
use Rattle.std.proofs.lemmas.List.{drop-drop, get_or_past, take-append-drop}
use Rattle.std.proofs.lemmas.List.Elements.{All-take, All-drop}
use Rattle.std.proofs.lemmas.Nat.{from_le_bytes-to_le_bytes_4, le_bytes_4}
use Rattle.std.proofs.Math.ListN.{get_or}
use Rattle.std.specs.List.{All}
use Rattle.std.specs.Int.{w32, from_le_bytes, to_le_bytes}
use Rattle.secretstream.specs.Stream.{State}
use Rattle.secretstream.specs.StateBytes.{state_of}

-- states with equal parts
pub state-same : {s : State} {k i : List ℕ} {n : ℕ} → k ≡ s.key → n ≡ s.counter → i ≡ s.inner
    → record { key = k; counter = n; inner = i } ≡ s
state-same {s} {i = i} key counter inner =
    ap₂ (λ (k : List ℕ) (n : ℕ). record { key = k; counter = n; inner = i }) key counter
    ∙ ap (λ i. record s { inner = i }) inner

-- out and in again
pub state_of-written : (s : State) → length s.key ≡ 32 → s.counter < 2 ^ 32
    → state_of (s.key ++ (to_le_bytes w32 s.counter ++ s.inner)) ≡ s
state_of-written s long below =
    let counter = to_le_bytes w32 s.counter in
    let nonce = counter ++ s.inner in
    let behind : drop 32 (s.key ++ nonce) ≡ nonce = drop_at s.key nonce 32 long in
    state-same (take_at s.key nonce 32 long)
    (ap (λ xs. from_le_bytes w32 (take 4 xs)) behind ∙ ap (from_le_bytes w32) (take_at counter s.inner 4 refl)
    ∙ from_le_bytes-to_le_bytes_4 s.counter below)
    (rw (← drop-drop 4 32 (s.key ++ nonce), behind) (drop_at counter s.inner 4 refl))

-- each state is one of 44 bytes
pub state_of-some : (s : State) → length s.key ≡ 32 → s.counter < 2 ^ 32 → length s.inner ≡ 8
    → (bytes : List ℕ) × (length bytes ≡ 44) × (state_of bytes ≡ s)
state_of-some s long below size =
    let nonce = to_le_bytes w32 s.counter ++ s.inner in (
      s.key ++ nonce,
      omega (arith, length-append s.key nonce, length-append (to_le_bytes w32 s.counter) s.inner, long, size),
      state_of-written s long below,
    )

-- bytes, read with a default
below-256 : (xs : List ℕ) → All (λ b. b < 256) xs → (i : ℕ) → get_or xs i 0 < 256
below-256 xs all i = elim (cases_lt i (length xs)) [
  | inl less ↦ all i 0 less
  | inr past ↦ subst (λ b. b < 256) (sym (get_or_past xs i 0 past)) (omega arith)
]

-- a state's bytes
written-state_of : (bs : List ℕ) → length bs ≡ 44 → All (λ b. b < 256) bs
    → let s = state_of bs in s.key ++ (to_le_bytes w32 s.counter ++ s.inner) ≡ bs
written-state_of bs long all =
    let rest = drop 32 bs in
    let size : length (take 4 rest) ≡ 4 = length-take-le 4 rest (omega (arith, length-drop 32 bs, long)) in
    let counter = le_bytes_4 (take 4 rest) (from_le_bytes w32 (take 4 rest)) size
    (below-256 (take 4 rest) (All-take (λ b. b < 256) 4 rest (All-drop (λ b. b < 256) 32 bs all))) refl in
    ap (λ r. take 32 bs ++ r)
    (ap₂ ◌++◌ counter (sym (drop-drop 4 32 bs)) ∙ take-append-drop 4 rest)
    ∙ take-append-drop 32 bs

-- different bytes are different states
pub state_of-same : (a b : List ℕ) → length a ≡ 44 → length b ≡ 44 → All (λ x. x < 256) a → All (λ x. x < 256) b
    → state_of a ≡ state_of b → a ≡ b
state_of-same a b long_a long_b all_a all_b same =
    sym (written-state_of a long_a all_a)
    ∙ ap (λ (s : State). s.key ++ (to_le_bytes w32 s.counter ++ s.inner)) same
    ∙ written-state_of b long_b all_b
