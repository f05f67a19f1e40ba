-- How a core and one block kept in a buffer stand for a position in bytes.
use Rattle.std.specs.Prelude.{ℕ, ◌+◌, ◌-◌, ◌/◌, ◌%◌, ◌≤◌, ◌<◌, ◌≡◌, List}
use Rattle.chacha_base.specs.Cipher.{limit_of}

-- how many bytes are left of the block that a position is in; none at the front of a block
abbrev pub left_at : ℕ → ℕ
left_at p = (64 - p % 64) % 64

-- n bytes from position p on, which is the front of a block if there are any; they end within the limit
pub record Follow (p n limit : ℕ) : Type 0 where
  pub front : 0 < n → p % 64 ≡ 0
  pub fits : p + n ≤ limit

-- The counter of the core is the number of blocks that begin before the position, or 0 again after
-- the last one. If the position is inside a block, the buffer holds that block.
pub record IsBuffered (modulus : ℕ) (block : ℕ → List ℕ) (counter : ℕ) (buffer : List ℕ)
    (position : ℕ) : Type 0 where
  pub within : position ≤ limit_of modulus
  pub made : counter ≡ (position + 63) / 64 % modulus
  pub held : 0 < position % 64 → buffer ≡ block (position / 64)
