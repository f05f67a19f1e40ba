-- The front of a message, which one call of a cipher makes.
use Rattle.std.specs.Prelude.{◌≡◌, ℕ, ◌-◌, min, List, take, drop, length}
use Rattle.chacha20poly1305.specs.Aead.{encrypted}

-- a front of a keystream with a text: behind block 0 it has the front of the encrypted text
abbrev pub HasFront : (ℕ → ℕ) → List ℕ → List ℕ → Type 0
HasFront stream text front =
    let n = min (length text) (length front - 64) in
    take n (drop 64 front) ≡ encrypted stream (take n text)
