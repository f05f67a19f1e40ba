-- Lists of calls on a generator, taken from the left.
use Rattle.std.specs.Prelude.{ℕ, ◌+◌, ◌*◌, ◌/◌, ◌≤◌, List, [], ◌∷◌}
use Rattle.chacha20.specs.Generator.{GeneratorState, at_word_pos, next_u32, next_u64, fill, state_bytes, of_state_bytes}
use Rattle.chacha20.specs.Runs.{put}
use Rattle.chacha20.specs.declared.runs.rng.RngCall.{RngCall}
use Rattle.chacha20.specs.declared.runs.rng.RngCall.TheVariants.{NextU32, NextU64, Fill, GetWordPos, SetWordPos, GetBlockPos, SetBlockPos, GetStream, SetStream, GetSeed, Serialize, Reload}
use Rattle.chacha20.specs.declared.runs.rng.RngAnswer.{RngAnswer}
use Rattle.chacha20.specs.declared.runs.rng.RngAnswer.TheVariants.{Done, U32, U64, U128, Seed, State}

-- what a call leaves: its answer, the generator and the data
pub record RngOutcome : Type 0 where
  pub answer : RngAnswer
  pub rng : GeneratorState
  pub bytes : List ℕ

-- a call that answers and changes nothing, and one that leaves another generator
abbrev pub outcome_with : GeneratorState → List ℕ → RngAnswer → RngOutcome
outcome_with g bytes answer = record { answer = answer; rng = g; bytes = bytes }

abbrev pub outcome_done : GeneratorState → List ℕ → RngOutcome
outcome_done g bytes = record { answer = Done; rng = g; bytes = bytes }

-- what a call on a generator with n double rounds leaves
abbrev pub rng_outcome : ℕ → GeneratorState → List ℕ → RngCall → RngOutcome
rng_outcome n g bytes NextU32 =
    let a = next_u32 n g in record { answer = U32 a.0; rng = a.1; bytes = bytes }
rng_outcome n g bytes NextU64 =
    let a = next_u64 n g in record { answer = U64 a.0; rng = a.1; bytes = bytes }
rng_outcome n g bytes (Fill at len) =
    let a = fill n g len in outcome_done a.1 (put at len a.0 bytes)
rng_outcome n g bytes GetWordPos = outcome_with g bytes (U128 g.word_pos)
rng_outcome n g bytes (SetWordPos w) = outcome_done (at_word_pos g w) bytes
rng_outcome n g bytes GetBlockPos = outcome_with g bytes (U64 (g.word_pos / 16))
rng_outcome n g bytes (SetBlockPos b) = outcome_done (record g { word_pos = 16 * b }) bytes
rng_outcome n g bytes GetStream = outcome_with g bytes (U64 g.stream)
rng_outcome n g bytes (SetStream t) = outcome_done (record g { stream = t; word_pos = 0 }) bytes
rng_outcome n g bytes GetSeed = outcome_with g bytes (Seed g.seed)
rng_outcome n g bytes Serialize = outcome_with g bytes (State (state_bytes g))
rng_outcome n g bytes Reload = outcome_done (of_state_bytes (state_bytes g)) bytes

-- all answers, and the generator and the data after the last call
abbrev pub rng_run : ℕ → GeneratorState → List ℕ → List RngCall
    → List RngAnswer × GeneratorState × List ℕ
rng_run n g bytes [] = ([], g, bytes)
rng_run n g bytes (k ∷ ks) =
    let a = rng_outcome n g bytes k in
    let rest = rng_run n a.rng a.bytes ks in
    (a.answer ∷ rest.0, rest.1, rest.2)

-- a call's range lies in data of this length
abbrev pub InData : ℕ → RngCall → Type 0
InData bytes (Fill at len) = at + len ≤ bytes
InData bytes _ = Unit {0}
