-- The tag bytes that libsodium names.
use Rattle.std.specs.Prelude.{ℕ, nat_eq, if◌then◌else◌}
use Rattle.secretstream.specs.declared.tag.Tag.{Tag}
use Rattle.secretstream.specs.declared.tag.Tag.TheVariants.{Message, Push, Rekey, Final, Other}

abbrev pub byte_of : Tag → ℕ
byte_of Message = 0
byte_of Push = 1
byte_of Rekey = 2
byte_of Final = 3
byte_of (Other byte) = byte

-- by its name, where it has one
abbrev pub tag_of : ℕ → Tag
tag_of byte =
    if nat_eq byte 0 then Message
    else if nat_eq byte 1 then Push
    else if nat_eq byte 2 then Rekey
    else if nat_eq byte 3 then Final
    else Other byte
