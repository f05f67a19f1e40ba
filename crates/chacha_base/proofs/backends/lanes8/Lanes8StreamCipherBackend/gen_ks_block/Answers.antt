use Rattle.std.proofs.Common.{◌*◌}
use Rattle.chacha_base.proofs.CountsLemmas.{grows-other}
use Rattle.chacha_base.proofs.backends.lanes8.Lanes8StreamCipherBackend.gen_ks_block.Goals as goal

-- answered for speed
pub returns : goal.returns
returns g c =
    let made = c.write_one.ensures in
    let steps = grows-other (4 * g.R.Rounds.COUNT) c.args.steps.now made.steps in
    record { block = made.block; state = made.state; steps = steps }
