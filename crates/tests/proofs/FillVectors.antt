-- How many words a fill of a generator takes, so that one more or one fewer doesn't check.
use Rattle.std.proofs.Common.{◌≡◌, ℕ, ◌+◌, refl}
use Rattle.chacha20.specs.Generator.{GeneratorState, fill, at_word_pos}

pub none : (n : ℕ) (g : GeneratorState) → (fill n g 0).1 ≡ at_word_pos g (g.word_pos + 0)
none n g = refl

pub one : (n : ℕ) (g : GeneratorState) → (fill n g 4).1 ≡ at_word_pos g (g.word_pos + 1)
one n g = refl

pub one_and_a_byte : (n : ℕ) (g : GeneratorState) → (fill n g 5).1 ≡ at_word_pos g (g.word_pos + 2)
one_and_a_byte n g = refl

pub two : (n : ℕ) (g : GeneratorState) → (fill n g 8).1 ≡ at_word_pos g (g.word_pos + 2)
two n g = refl
