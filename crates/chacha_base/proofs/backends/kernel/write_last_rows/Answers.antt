use Rattle.std.proofs.Common.{◌≡◌, ◌%◌, ◌+◌, [], ◌∙◌, ap, ap₂, drop, slice_index_or, slice_set, below_more, arith, get_or-set_same, get_or-set_other}
use Rattle.chacha_base.specs.State.{state_at, state_after}
use Rattle.chacha_base.proofs.RowLemmas.{last_row-state_at}
use Rattle.chacha_base.proofs.backends.kernel.write_last_rows.Goals as goal

pub each-preserved : goal.each-preserved
each-preserved g c =
    let i = c.each.g in
    let layout = g.V.Variant.layout in
    let s = c.args.state.now in
    below_more (λ h. slice_index_or (slice_set c.each.rows i _) h [] ≡ drop 12 (state_after layout h s)) i
    (λ h less. get_or-set_other c.each.rows i h _ [] (omega arith) ∙ c.each.invariant h less)
    (get_or-set_same c.each.rows i _ [] (omega arith)
    ∙ last_row-state_at layout _ s _ c.told-state c.set_block_pos.ensures.row
    ∙ ap (λ n. drop 12 (state_at layout n s))
    (c.advanced_by.ensures
    ∙ ap₂ (λ v m. (v + i) % m) c.counter.ensures.value g.met.V.Variant.counters))
