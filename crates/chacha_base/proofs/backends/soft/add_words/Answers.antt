use Rattle.chacha_base.proofs.RoundLemmas.{add_states_are}
use Rattle.std.proofs.Common.{◌≡◌, arith}
use Rattle.chacha_base.proofs.backends.soft.add_words.Goals as goal

pub returns : goal.returns
returns c =
    let all : c.loop-i.i ≡ 16 = omega arith in
    add_states_are _ _ _ c.loop-i.invariant.sixteen (λ w h. c.loop-i.invariant.done w (omega arith))
