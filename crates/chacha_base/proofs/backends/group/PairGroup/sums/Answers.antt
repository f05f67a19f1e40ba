use Rattle.std.proofs.Common.{◌-◌, arith, nat_lt, ltb-true, ltb-false}
use Rattle.chacha_base.specs.ChaCha.{add_states}
use Rattle.chacha_base.proofs.RowLemmas.{either-same}
use Rattle.chacha_base.proofs.backends.group.PairGroup.sums.Goals as goal

-- answered for speed
pub returns : goal.returns
returns g c j h =
    let n = g.G.Group.BLOCKS in
    either-same add_states (nat_lt j n) (λ front. c.sums.ensures j (ltb-true j n front))
    (λ back. c.sums-2.ensures (j - n) (omega (arith, h, ltb-false j n back)))
