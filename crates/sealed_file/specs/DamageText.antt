-- How damage prints.
use Rattle.std.specs.Prelude.{ℕ, zero, suc, ◌+◌, ◌*◌, List, ◌++◌, codes}
use Rattle.std.specs.Fmt.{decimal}
use Rattle.sealed_file.specs.declared.error.Damage.{Damage}
use Rattle.sealed_file.specs.declared.error.Damage.TheVariants.{NotSealed, OtherVersion, CutHeader, TooLong, WrongChunk, WrongEnd}

-- by the bytes of the text that are damaged
abbrev pub damage_text : Damage → List ℕ
damage_text NotSealed = codes "not a sealed file"
damage_text OtherVersion = codes "sealed in another version of the format"
damage_text CutHeader = codes "the file ends in its header"
damage_text TooLong = codes "longer than a sealed file can be"
damage_text (WrongChunk zero) =
    codes "the key is wrong, or bytes 0 to 65535 of the text are damaged"
damage_text (WrongChunk (suc i)) =
    codes "bytes " ++ (decimal (suc i * 65536) ++ (codes " to " ++ (decimal (suc i * 65536 + 65535)
    ++ codes " of the text are damaged")))
damage_text (WrongEnd zero) = codes "the key is wrong, or the text is damaged or cut"
damage_text (WrongEnd (suc i)) =
    codes "the text from byte " ++ (decimal (suc i * 65536) ++ codes " on is damaged or cut")
