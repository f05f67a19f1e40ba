-- How an error prints.
use Rattle.std.specs.Prelude.{ℕ, List, codes}
use Rattle.chacha20poly1305.specs.declared.error.Error.{Error}
use Rattle.chacha20poly1305.specs.declared.error.Error.TheVariants.{TooLong, WrongTag}

abbrev pub error_text : Error → List ℕ
error_text TooLong = codes "the message is too long"
error_text WrongTag = codes "the tag is wrong"
