-- Sealed files, without their bytes at hand.
use Rattle.std.specs.Prelude.{◌≡◌, ◌⊎◌, ◌<◌, ℕ, Bool, List, IsTrue}
use Rattle.sealed_file.specs.declared.error.Damage.{Damage}
use Rattle.sealed_file.specs.declared.error.Damage.TheVariants.{NotSealed, OtherVersion, CutHeader}
use Rattle.sealed_file.specs.Sealed.{chunk}

-- the status of what is wrong with a header
abbrev pub status_of : Damage → ℕ
status_of NotSealed = 5
status_of OtherVersion = 3
status_of CutHeader = 4
status_of _ = 1

-- how many bytes of text chunk i may have: 65536, or fewer if it is the last; only chunk 0 may have none
abbrev pub IsTextLength : ℕ → Bool → ℕ → Type 0
IsTextLength i last len = (len ≡ 65536) ⊎ (IsTrue last × (len < 65536) × (0 < i → 0 < len))

-- bytes that are chunk i of some text
abbrev pub IsChunk : List ℕ → List ℕ → ℕ → Bool → List ℕ → Type 0
IsChunk key salt i last bytes = (text : List ℕ) × (bytes ≡ chunk key salt i last text)
