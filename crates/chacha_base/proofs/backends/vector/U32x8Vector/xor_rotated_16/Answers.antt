use Rattle.std.proofs.Common.{refl}
use Rattle.chacha_base.proofs.LaneLemmas.{xor_halves-is-rotl}
use Rattle.chacha_base.proofs.backends.vector.U32x8Vector.xor_rotated_16.Goals as goal

pub returns : goal.returns
returns c = xor_halves-is-rotl c.args.self c.args.other c.fits-self c.fits-other (λ xs. refl)
