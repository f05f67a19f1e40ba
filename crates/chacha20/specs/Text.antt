-- How a core prints.
use Rattle.std.specs.Prelude.{ℕ, ◌*◌, List, ◌++◌, codes}
use Rattle.std.specs.Fmt.{decimal}
use Rattle.chacha_base.specs.ChaCha.{Layout}
use Rattle.chacha_base.specs.State.{counter_len}

-- the number of double rounds and the bits of a counter; the parenthesis that closes nothing is the
-- Rust crate's
abbrev pub core_text : ℕ → Layout → List ℕ
core_text n layout =
    codes "ChaChaCore<R: "
    ++ (decimal n
    ++ (codes ", V: " ++ (decimal (32 * counter_len layout) ++ codes "-bit)> { ... }")))
