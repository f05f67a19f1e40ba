use Rattle.std.proofs.Common.{◌/◌, ◌^◌}
use Rattle.poly1305.proofs.LaneLemmas.{lane_of_one}
use Rattle.poly1305.proofs.vector.shift_right.Goals as goal

pub returns : goal.returns
returns c = lane_of_one (λ x s. x / 2 ^ s) c.args.x c.args.by c.fits-x.0
