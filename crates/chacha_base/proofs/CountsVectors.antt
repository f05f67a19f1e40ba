-- Worked counts and remaining blocks, so that a definition that is changed together with the code does not check.
use Rattle.std.proofs.Common.{◌≡◌, ◌+◌, ◌*◌, ◌-◌, ◌^◌, Some, None, [], ◌∷◌, refl}
use Rattle.chacha_base.specs.Cipher.{remaining}
use Rattle.chacha_base.specs.Counts.{for_bytes, tail_of_16, tail_of_8}

-- from byte 20 of a block on: the 44 bytes that it still has, seven blocks and 50 bytes. Four blocks are a parallel
-- call of 80 quarter rounds, and a single block takes 7
pub inside_a_block : for_bytes 4 80 7 (64 + 20) (44 + 7 * 64 + 50)
    ≡ record { par = 1; other = 3 + 1; least = 80 + 2 * 7; most = 80 + 4 * 7 }
inside_a_block = refl

pub tails_of_16 : tail_of_16 0 ∷ tail_of_16 4 ∷ tail_of_16 5 ∷ tail_of_16 8 ∷ tail_of_16 9 ∷ [] ≡ 0 ∷ 2 ∷ 4 ∷ 4 ∷ 8 ∷ []
tails_of_16 = refl

pub tails_of_8 : tail_of_8 0 ∷ tail_of_8 4 ∷ tail_of_8 5 ∷ tail_of_8 6 ∷ tail_of_8 7 ∷ [] ≡ 0 ∷ 2 ∷ 4 ∷ 4 ∷ 8 ∷ []
tails_of_8 = refl

-- of 2^32 counters and of 2^64
pub remaining_of_32_bits : remaining (2 ^ 32) 0 ∷ remaining (2 ^ 32) (2 ^ 32 - 1) ∷ [] ≡ Some 4294967296 ∷ Some 1 ∷ []
remaining_of_32_bits = refl

pub remaining_of_64_bits : remaining (2 ^ 64) 0 ∷ remaining (2 ^ 64) 1 ∷ [] ≡ None ∷ Some 18446744073709551615 ∷ []
remaining_of_64_bits = refl
