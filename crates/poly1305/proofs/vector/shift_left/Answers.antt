use Rattle.std.proofs.Common.{◌*◌, ◌%◌, ◌^◌}
use Rattle.poly1305.proofs.LaneLemmas.{lane_of_one}
use Rattle.poly1305.proofs.vector.shift_left.Goals as goal

pub returns : goal.returns
returns c = lane_of_one (λ x s. x * 2 ^ s % 2 ^ 64) c.args.x c.args.by c.fits-x.0
