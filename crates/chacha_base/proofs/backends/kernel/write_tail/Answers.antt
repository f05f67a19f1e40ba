use Rattle.std.proofs.Common.{◌≡◌, ◌*◌, [], min, length, slice_index_or, Some, sym, ap, ◌∙◌, arith}
use Rattle.std.proofs.lemmas.Grind.{common_steps}
use Rattle.chacha_base.specs.ChaCha.{bytes}
use Rattle.chacha_base.specs.State.{state_after}
use Rattle.chacha_base.proofs.CountsLemmas.{grows-tail}
use Rattle.chacha_base.proofs.ListLemmas.{one_more}
use Rattle.chacha_base.proofs.StateLemmas.{state_after-zero}
use Rattle.chacha_base.proofs.backends.kernel.write_tail.Goals as goal

pub returns-after-each-clause-steps : goal.returns-after-each-clause-steps
returns-after-each-clause-steps g c =
    let some : min 1 (length c.args.blocks.now) ≡ 1 = grind (arith, common_steps) in
    grows-tail (2 * g.G.Group.ROUND_STEPS * g.R.Rounds.COUNT)
    (length c.args.blocks.now) some c.add_other.ensures c.mixed_words-words.ensures.steps

pub returns-else-not-is_empty-clause-state : goal.returns-else-not-is_empty-clause-state
returns-else-not-is_empty-clause-state g c =
    let s = c.args.state.now in
    let none : 0 ≡ length c.args.blocks.now = grind (arith, common_steps) in
    sym (state_after-zero g.V.Variant.layout s c.told-state c.fits-state)
    ∙ ap (λ k. state_after g.V.Variant.layout k s) none

pub returns-after-each-clause-state : goal.returns-after-each-clause-state
returns-after-each-clause-state g c =
    let same : length c.each.blocks ≡ length c.args.blocks.now = omega arith in
    rw (← same) c.advance.ensures

-- answered for speed
pub each-preserved : goal.each-preserved
each-preserved g l =
    one_more (λ h. bytes (slice_index_or l.mixed_words-words.result h [])) l.each.g l.each.blocks
    l.write_bytes.new.output (omega arith) l.write_bytes.ensures l.each.invariant

pub returns-after-each-clause-blocks : goal.returns-after-each-clause-blocks
returns-after-each-clause-blocks g c i less =
    c.each.invariant i (omega arith) ∙ ap (λ w. Some (bytes w)) (c.mixed_words-words.ensures.words i (omega arith))
