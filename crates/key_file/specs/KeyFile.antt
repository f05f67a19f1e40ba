-- Files that hold a key.
use Rattle.std.specs.Prelude.{◌≡◌, ◌++◌, ◌⊎◌, ℕ, List, [], ◌∷◌, codes}
use Rattle.base64.specs.Engines.{standard}
use Rattle.base64.specs.GeneralPurpose.{encode_of}

-- a key as text
abbrev pub key_text : List ℕ → List ℕ
key_text key = codes "seal-key-v1:" ++ encode_of standard key

-- the end of a line, or of a file without one
abbrev pub IsLineEnd : List ℕ → Type 0
IsLineEnd end = (end ≡ []) ⊎ ((end ≡ 10 ∷ []) ⊎ (end ≡ 13 ∷ 10 ∷ []))

-- the key itself, or a line of it
abbrev pub IsKeyFile : List ℕ → List ℕ → Type 0
IsKeyFile key file = (file ≡ key)
    ⊎ ((end : List ℕ) × IsLineEnd end × (file ≡ key_text key ++ end))
