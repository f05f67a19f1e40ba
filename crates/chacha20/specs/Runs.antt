-- Lists of calls on a cipher, taken from the left.
use Rattle.std.specs.Prelude.{ℕ, ◌+◌, ◌-◌, ◌^◌, ◌≤◌, nat_le, ◌==◌, ◌&&◌, Bool, if◌then◌else◌, List, [], ◌∷◌, pos, negsuc}
use borrow.Rule.Slice.PartMut.{mid_of, put_mid}
use Rattle.chacha_base.specs.Cipher.{Cipher, limit_of}
use Rattle.chacha_base.specs.ChaCha.{keystream, xor_stream, stream_part}
use Rattle.chacha20.specs.declared.runs.CipherCall.{CipherCall}
use Rattle.chacha20.specs.declared.runs.CipherCall.TheVariants.{CheckRemaining, Apply, Write, ApplyFrom, Seek, SeekI32, Pos, PosI32}
use Rattle.chacha20.specs.declared.runs.CipherAnswer.{CipherAnswer}
use Rattle.chacha20.specs.declared.runs.CipherAnswer.TheVariants.{Done, Refused, Position, PositionI32, Overflow}

-- the bytes of a range, and bytes with a range replaced
abbrev pub part : ℕ → ℕ → List ℕ → List ℕ
part at len xs = mid_of at len xs

abbrev pub put : ℕ → ℕ → List ℕ → List ℕ → List ℕ
put at len ys xs = put_mid at len xs ys

-- what stays in a run: the keystream for each fixed part, the limit, and the input
pub record Setting : Type 0 where
  pub stream : List ℕ → ℕ → ℕ
  pub limit : ℕ
  pub input : List ℕ

-- that of a core, by its number of counters and its blocks
abbrev pub setting : ℕ → (List ℕ → ℕ → List ℕ) → List ℕ → Setting
setting modulus block_at input = record {
  stream = λ fixed. keystream modulus (block_at fixed);
  limit = limit_of modulus;
  input = input;
}

-- what a call leaves: its answer, the cipher and the data
pub record CipherOutcome : Type 0 where
  pub answer : CipherAnswer
  pub cipher : Cipher
  pub bytes : List ℕ

-- a call that is accepted where the test says yes, and leaves the cipher at this position and the
-- data `after`; else it is refused and changes nothing
abbrev pub done_if : Bool → Cipher → List ℕ → ℕ → List ℕ → CipherOutcome
done_if accepted c bytes position after =
    if accepted
    then record { answer = Done; cipher = record c { position = position }; bytes = after }
    else record { answer = Refused; cipher = c; bytes = bytes }

abbrev pub cipher_outcome : Setting → Cipher → List ℕ → CipherCall → CipherOutcome
cipher_outcome s c bytes (CheckRemaining len) =
    done_if (nat_le (c.position + len) s.limit) c bytes c.position bytes
cipher_outcome s c bytes (Apply at len) =
    done_if (nat_le (c.position + len) s.limit) c bytes (c.position + len)
    (put at len (xor_stream (s.stream c.fixed) c.position (part at len bytes)) bytes)
cipher_outcome s c bytes (Write at len) =
    done_if (nat_le (c.position + len) s.limit) c bytes (c.position + len)
    (put at len (stream_part (s.stream c.fixed) c.position len) bytes)
cipher_outcome s c bytes (ApplyFrom from from_len at len) =
    done_if ((from_len == len) && nat_le (c.position + len) s.limit) c bytes (c.position + len)
    (put at len (xor_stream (s.stream c.fixed) c.position (part from from_len s.input)) bytes)
cipher_outcome s c bytes (Seek p) = done_if (nat_le p s.limit) c bytes p bytes
cipher_outcome s c bytes (SeekI32 (pos p)) = done_if (nat_le p s.limit) c bytes p bytes
cipher_outcome s c bytes (SeekI32 (negsuc p)) =
    record { answer = Refused; cipher = c; bytes = bytes }
cipher_outcome s c bytes Pos = record { answer = Position c.position; cipher = c; bytes = bytes }
cipher_outcome s c bytes PosI32 = record {
  answer = (if nat_le c.position (2 ^ 31 - 1) then PositionI32 (pos c.position) else Overflow);
  cipher = c;
  bytes = bytes;
}

-- all answers, and the cipher and the data after the last call
abbrev pub cipher_run : Setting → Cipher → List ℕ → List CipherCall
    → List CipherAnswer × Cipher × List ℕ
cipher_run s c bytes [] = ([], c, bytes)
cipher_run s c bytes (k ∷ ks) =
    let a = cipher_outcome s c bytes k in
    let rest = cipher_run s a.cipher a.bytes ks in
    (a.answer ∷ rest.0, rest.1, rest.2)

-- a call's ranges lie in input and data of these lengths
abbrev pub InSlices : ℕ → ℕ → CipherCall → Type 0
InSlices input bytes (Apply at len) = at + len ≤ bytes
InSlices input bytes (Write at len) = at + len ≤ bytes
InSlices input bytes (ApplyFrom from from_len at len) =
    (from + from_len ≤ input) × (at + len ≤ bytes)
InSlices input bytes _ = Unit {0}

-- the calls that apply the keystream in pieces of these lengths, from a place on
abbrev pub pieces : ℕ → List ℕ → List CipherCall
pieces at [] = []
pieces at (len ∷ lens) = Apply at len ∷ pieces (at + len) lens
