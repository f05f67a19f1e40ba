use Rattle.secretstream.proofs.StateBytesLemmas.{state_of-some, state_of-same}
use Rattle.secretstream.proofs.facts.stored.Goals as goal

pub returns : goal.returns
returns c = record { some = state_of-some; one = state_of-same }
