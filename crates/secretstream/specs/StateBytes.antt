-- A stored state.
use Rattle.std.specs.Prelude.{ℕ, List, take, drop}
use Rattle.std.specs.Int.{from_le_bytes, w32}
use Rattle.secretstream.specs.Stream.{State}

-- the state of 44 bytes: key, counter and inner nonce. Each state has 44 bytes, and no others.
abbrev pub state_of : List ℕ → State
state_of bs = record {
  key = take 32 bs;
  counter = from_le_bytes w32 (take 4 (drop 32 bs));
  inner = drop 36 bs;
}
