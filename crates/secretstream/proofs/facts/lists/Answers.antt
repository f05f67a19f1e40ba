use Rattle.secretstream.proofs.StreamLaws.{sent-taken, taken-sent, taken-same, wrong-refused, cut-incomplete}
use Rattle.secretstream.proofs.facts.lists.Goals as goal

pub returns : goal.returns
returns c = record {
  sent = sent-taken;
  taken = taken-sent;
  same = taken-same;
  refused = wrong-refused;
  cut = cut-incomplete;
}
