use Rattle.std.proofs.Common.{◌∙◌, bit_and, slice_index}
use Rattle.std.proofs.lemmas.Nat.{and_mask}
use Rattle.poly1305.proofs.LaneLemmas.{lane_of_one}
use Rattle.poly1305.proofs.vector.low_limb.Goals as goal

pub returns : goal.returns
returns c k h = lane_of_one bit_and c.args.x 0x3ffffff c.fits-x.0 k h ∙ and_mask (slice_index c.args.x k) 26
