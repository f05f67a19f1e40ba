-- Worked runs without rounds, so that a case of a list of calls that is changed together with the code does not check.
use Rattle.std.proofs.Common.{◌≡◌, ◌+◌, ◌^◌, ℕ, [], ◌∷◌, ◌++◌, replicate, pos, negsuc, refl}
use Rattle.chacha_base.specs.ChaCha.{quarter, columns, diagonals, rounds, add_states, ietf, block}
use Rattle.chacha20.specs.Generator.{of_seed}
use Rattle.chacha20.specs.GeneratorRuns.{rng_run}
use Rattle.chacha20.specs.Runs.{setting, cipher_run}
use Rattle.chacha20.specs.declared.runs.CipherCall.TheVariants as call
use Rattle.chacha20.specs.declared.runs.CipherAnswer.TheVariants as answer
use Rattle.chacha20.specs.declared.runs.rng.RngCall.TheVariants as rng_call
use Rattle.chacha20.specs.declared.runs.rng.RngAnswer.TheVariants as rng_answer

-- a cipher for a key and a nonce of zeros
pub cipher_calls : cipher_run
    (setting (2 ^ 32) (λ fixed. block 0 ietf (replicate 32 0) (replicate 12 0)) (1 ∷ 2 ∷ 3 ∷ []))
    (record { fixed = []; position = 0 }) (0 ∷ 0 ∷ 0 ∷ 9 ∷ [])
    (call.Apply 0 3 ∷ call.Seek 0 ∷ call.ApplyFrom 0 3 1 3 ∷ call.ApplyFrom 0 3 0 4 ∷ call.Pos ∷ call.SeekI32 (negsuc 0)
    ∷ call.PosI32 ∷ call.Write 0 1 ∷ call.SeekI32 (pos 2) ∷ call.Apply 2 2 ∷ call.Seek (2 ^ 38 + 1) ∷ call.Seek (2 ^ 38)
    ∷ call.PosI32 ∷ call.CheckRemaining 0 ∷ call.CheckRemaining 1 ∷ call.Write 0 1 ∷ [])
    ≡ (
      answer.Done ∷ answer.Done ∷ answer.Done ∷ answer.Refused ∷ answer.Position 3 ∷ answer.Refused
          ∷ answer.PositionI32 (pos 3) ∷ answer.Done ∷ answer.Done ∷ answer.Done ∷ answer.Refused ∷ answer.Done
          ∷ answer.Overflow ∷ answer.Done ∷ answer.Refused ∷ answer.Refused ∷ [],
      record { fixed = []; position = 2 ^ 38 },
      0xc2 ∷ 0xcb ∷ 0x12 ∷ 0x21 ∷ [],
    )
unfolding quarter columns diagonals rounds add_states
cipher_calls = refl

-- a generator of a seed of zeros
abbrev pub stream : ℕ
stream = 0x8000000100000003

pub rng_calls : rng_run 0 (of_seed (replicate 32 0)) (replicate 5 0)
    (rng_call.SetStream stream ∷ rng_call.SetWordPos (2 ^ 68 + 14) ∷ rng_call.NextU64 ∷ rng_call.GetWordPos
    ∷ rng_call.GetBlockPos ∷ rng_call.Fill 1 3 ∷ rng_call.Reload ∷ rng_call.NextU32 ∷ rng_call.GetStream
    ∷ rng_call.SetBlockPos 3 ∷ rng_call.GetWordPos ∷ rng_call.GetSeed ∷ rng_call.Serialize ∷ [])
    ≡ (
      rng_answer.Done ∷ rng_answer.Done ∷ rng_answer.U64 0x0000000200000006 ∷ rng_answer.U128 16
          ∷ rng_answer.U64 1 ∷ rng_answer.Done ∷ rng_answer.Done ∷ rng_answer.U32 0x6640c8dc ∷ rng_answer.U64 stream
          ∷ rng_answer.Done ∷ rng_answer.U128 48 ∷ rng_answer.Seed (replicate 32 0)
          ∷ rng_answer.State (replicate 32 0 ++ (3 ∷ 0 ∷ 0 ∷ 0 ∷ 1 ∷ 0 ∷ 0 ∷ 0x80 ∷ 48 ∷ replicate 8 0)) ∷ [],
      record { seed = replicate 32 0; stream = stream; word_pos = 48 },
      0 ∷ 0xca ∷ 0xf0 ∷ 0xe0 ∷ 0 ∷ [],
    )
unfolding quarter columns diagonals rounds add_states
rng_calls = refl
