-- What clauses read of a `SealedReader`.
use Rattle.std.specs.Prelude.{◌≡◌, ℕ, Bool, List}
use Rattle.sealed_file.specs.Ranges.{File, HasText}
use Rattle.sealed_file.specs.Sealed.{text_of}
use Rattle.sealed_file.specs.declared.file.ReadAt.{Ghosts}
use Rattle.sealed_file.specs.declared.reader.SealedReader.{SealedReader}

-- the file, with its key, its salt and, where they are known, its bytes
abbrev pub file : {R : Type 0} {G : Ghosts R} → SealedReader R G → File
file {R} {G} r = record { key = r.key; salt = r.salt; bytes = G.bytes r.source }

-- whether a call of the file may fail
abbrev pub may_fail : {R : Type 0} {G : Ghosts R} → SealedReader R G → Bool
may_fail {R} {G} r = G.may_fail r.source

-- how many bytes the text has
abbrev pub text_len : {R : Type 0} {G : Ghosts R} → SealedReader R G → ℕ
text_len r = text_of r.len

-- the place of the next byte in the text
abbrev pub position : {R : Type 0} {G : Ghosts R} → SealedReader R G → ℕ
position r = r.position

-- the file is a sealed one of this text, under the reader's key
abbrev pub Reads : {R : Type 0} {G : Ghosts R} → SealedReader R G → List ℕ → Type 0
Reads r text = HasText (file r) text

-- what no call changes
abbrev pub IsSame : {R : Type 0} {G : Ghosts R} → SealedReader R G → SealedReader R G → Type 0
IsSame r s = (file s ≡ file r) × (may_fail s ≡ may_fail r) × (text_len s ≡ text_len r)
