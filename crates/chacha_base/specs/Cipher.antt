-- A cipher over bytes: how far it goes, and the numbers that can be positions.
use Rattle.std.specs.Prelude.{ℕ, ℤ, pos, negsuc, ◌*◌, ◌-◌, ◌^◌, nat_lt, if◌then◌else◌}
use Rattle.std.specs.Prelude.{List, Option, Some, None}

-- all of a core but its counter, and the position in bytes
pub record Cipher : Type 0 where
  pub fixed : List ℕ
  pub position : ℕ

-- the greatest position, in bytes, by how many counters there are: the end of the block with the
-- greatest one (RFC 8439, 2.3)
abbrev pub limit_of : ℕ → ℕ
limit_of modulus = 64 * modulus

-- how many blocks are left at a counter; `None` where a `usize` cannot represent that number
abbrev pub remaining : ℕ → ℕ → Option ℕ
remaining modulus c = if nat_lt (modulus - c) (2 ^ 64) then Some (modulus - c) else None

-- the position that a signed number is, where it is not negative
abbrev pub signed_position : ℤ → Option ℕ
signed_position (pos n) = Some n
signed_position (negsuc n) = None
