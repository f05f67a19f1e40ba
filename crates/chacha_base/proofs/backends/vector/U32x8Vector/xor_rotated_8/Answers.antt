use Rattle.std.proofs.Common.{refl, arith}
use Rattle.chacha_base.proofs.LaneLemmas.{xor_bytes-is-rotl}
use Rattle.chacha_base.proofs.backends.vector.U32x8Vector.xor_rotated_8.Goals as goal

pub returns : goal.returns
returns c = xor_bytes-is-rotl 3 c.args.self c.args.other (omega arith) c.fits-self c.fits-other (λ xs. refl)
