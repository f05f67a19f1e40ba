-- A cipher that has moved, and moves on. The loops over pieces of the byte stream cite this, and so may proofs of
-- callers over any cipher.
use Rattle.std.proofs.Common.{◌≡◌, ℕ, ◌+◌, arith}

-- a position that has moved, and moves on by a piece of n bytes
pub moved_on : (now new p done n size : ℕ) → now ≡ p + done → size ≡ n → new ≡ now + size → new ≡ p + (done + n)
moved_on now new p done n size before long moved = omega arith
