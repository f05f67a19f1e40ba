use Rattle.std.proofs.Common.{◌<◌, ◌∙◌, ap, ap₂, arith}
use Rattle.chacha_base.specs.Lanes.{with_last_row}
use Rattle.chacha_base.specs.ChaCha.{rounds, add_states}
use Rattle.chacha_base.proofs.RowLemmas.{with_last_row-state_after}
use Rattle.chacha_base.proofs.backends.kernel.mixed_group.Goals as goal

pub returns-clause-blocks : goal.returns-clause-blocks
returns-clause-blocks g c b h =
    let s = c.args.state.now in
    let inside : b < g.G.Group.BLOCKS = omega arith in
    let start = c.start-start.ensures b inside
    ∙ ap (with_last_row s) (c.write_last_rows.ensures b (omega arith))
    ∙ with_last_row-state_after g.V.Variant.layout b s c.told-state in
    c.sums.ensures b inside
    ∙ ap₂ add_states (c.double_rounds.ensures.blocks b inside
    ∙ ap₂ rounds c.COUNT.ensures (ap (λ group. g.G.Group.words_of group b) c.copied.ensures ∙ start)) start
