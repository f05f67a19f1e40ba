-- Between the blocks of a text.
use Rattle.std.specs.Prelude.{ℕ, List, ◌≡◌, ◌≤◌, ◌*◌, length, drop}
use Rattle.poly1305.specs.Poly1305.{accumulator, r_of}

-- a is the accumulator after some whole blocks of a text, and `rest` is what is behind them
abbrev pub Absorbed : List ℕ → List ℕ → ℕ → List ℕ → Type 0
Absorbed key text a rest =
    (k : ℕ) × (16 * k ≤ length text) × (a ≡ accumulator (r_of key) 0 text k)
    × (rest ≡ drop (16 * k) text)
