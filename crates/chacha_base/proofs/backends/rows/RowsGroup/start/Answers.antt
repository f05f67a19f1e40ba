use Rattle.std.proofs.Common.{◌≡◌, [], slice_index, slice_index_or, ◌∙◌, arith, below_more}
use Rattle.chacha_base.specs.Lanes.{quad}
use Rattle.chacha_base.proofs.ListLemmas.{four_joined}
use Rattle.chacha_base.proofs.RowLemmas.{quad-same}
use Rattle.chacha_base.proofs.backends.rows.RowsGroup.start.Goals as goal

pub each-preserved : goal.each-preserved
each-preserved g c =
    let last = c.args.last_rows.now in
    record {
      sixteen = c.set_row.array_long;
      done =
          below_more (λ h. quad (slice_index c.set_row.new.words) h ≡ quad (slice_index (slice_index_or last h [])) 0)
          c.each.g
          (λ h less.
          c.set_row.ensures.elsewhere h (omega (arith, less, g.met.V.Vector.quads_at_most)) (omega arith)
          ∙ c.each.invariant.done h less)
          c.set_row.ensures.here;
    }

pub returns : goal.returns
returns g c h less =
    four_joined (c.repeated.ensures h less) (c.repeated-2.ensures h less) (c.repeated-3.ensures h less)
    (quad-same (g.V.Vector.lane c.from_words.result) (slice_index c.each.d) h
    (λ j from within. c.from_words.ensures j (omega (arith, less, within)))
    ∙ c.each.invariant.done h (omega (arith, less)))
