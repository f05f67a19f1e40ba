-- How errors print.
use Rattle.std.specs.Prelude.{ℕ, List, codes}
use Rattle.packets.specs.declared.error.SendError.{SendError}
use Rattle.packets.specs.declared.error.SendError.TheVariants.{CountersUsedUp, TooLong}
use Rattle.packets.specs.declared.error.ReceiveError.{ReceiveError}
use Rattle.packets.specs.declared.error.ReceiveError.TheVariants.{TooShort, OutputTooShort, Replayed, TooOld, Forged}

abbrev pub send_error_text : SendError → List ℕ
send_error_text CountersUsedUp = codes "all counters are used"
send_error_text TooLong = codes "the text is too long"

abbrev pub receive_error_text : ReceiveError → List ℕ
receive_error_text TooShort = codes "the packet is too short"
receive_error_text OutputTooShort = codes "the output is too short"
receive_error_text Replayed = codes "the packet comes again"
receive_error_text TooOld = codes "the packet is too old"
receive_error_text Forged = codes "not a packet under this key"
