use Rattle.std.proofs.Common.{arith}
use Rattle.std.proofs.lemmas.Simd.{shifts_fit_splat}
use Rattle.chacha_base.proofs.LaneLemmas.{xor_shifted-is-rotl}
use Rattle.chacha_base.proofs.backends.vector.lanes_xor_rotated.Goals as goal

pub overflow_shl-result : goal.overflow_shl-result
overflow_shl-result g c = shifts_fit_splat 32 _ g.row.N c.args.by c.requires.most

pub overflow_shr-result : goal.overflow_shr-result
overflow_shr-result g c = shifts_fit_splat 32 _ g.row.N _ (omega arith)

pub returns : goal.returns
returns g c =
    xor_shifted-is-rotl c.args.by c.args.one c.args.other (c.requires.some, c.requires.most) c.fits-one c.fits-other
