-- Lists of messages, from any state on.
use Rattle.std.specs.Prelude.{◌≡◌, ◌≢◌, ◌≤◌, ◌∷◌, ◌^◌, ◌+◌, ℕ, List, [], length}
use Rattle.secretstream.specs.Stream.{State, message_of, after}
use Rattle.secretstream.specs.Tags.{byte_of}
use Rattle.secretstream.specs.declared.tag.Tag.TheVariants.{Final}

-- what is pushed
pub record Item : Type 0 where
  pub aad : List ℕ
  pub tag : ℕ
  pub text : List ℕ

-- what comes to a receiver: associated data of its own, and bytes
pub record Coming : Type 0 where
  pub aad : List ℕ
  pub bytes : List ℕ

abbrev pub message_in : State → Item → List ℕ
message_in s m = message_of s m.aad m.tag m.text

abbrev pub after_one : State → Item → State
after_one s m = after s m.aad m.tag m.text

-- what a sender makes of a list
abbrev pub sent : State → List Item → List Coming
sent s [] = []
sent s (m ∷ ms) = record { aad = m.aad; bytes = message_in s m } ∷ sent (after_one s m) ms

-- the state behind it
abbrev pub after_all : State → List Item → State
after_all s [] = s
after_all s (m ∷ ms) = after_all (after_one s m) ms

-- A receiver takes all that comes, one after another, for this list: each is the next message of its text, with the
-- receiver's own associated data.
abbrev pub Taken : State → List Coming → List Item → Type 0
Taken s [] [] = Unit {0}
Taken s (c ∷ cs) (m ∷ ms) =
    (128 + length m.text ≤ 2 ^ 38) × (c.aad ≡ m.aad) × (c.bytes ≡ message_in s m)
    × Taken (after_one s m) cs ms
Taken s _ _ = ⊥

-- the stream is complete: the tag of its last message is Final
abbrev pub IsComplete : List Item → Type 0
IsComplete [] = ⊥
IsComplete (m ∷ []) = m.tag ≡ byte_of Final
IsComplete (m ∷ n ∷ ms) = IsComplete (n ∷ ms)

-- and that of no other one
abbrev pub EndsOnce : List Item → Type 0
EndsOnce [] = ⊥
EndsOnce (m ∷ []) = m.tag ≡ byte_of Final
EndsOnce (m ∷ n ∷ ms) = (m.tag ≢ byte_of Final) × EndsOnce (n ∷ ms)
