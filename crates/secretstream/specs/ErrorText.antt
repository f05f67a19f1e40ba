-- How an error prints.
use Rattle.std.specs.Prelude.{ℕ, List, codes}
use Rattle.secretstream.specs.declared.error.Error.{Error}
use Rattle.secretstream.specs.declared.error.Error.TheVariants.{TooLong, Forged}

abbrev pub error_text : Error → List ℕ
error_text TooLong = codes "the message is too long"
error_text Forged = codes "not the next message of this stream"
