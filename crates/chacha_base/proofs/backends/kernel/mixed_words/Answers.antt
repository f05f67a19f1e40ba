use Rattle.std.proofs.Common.{◌<◌, [], sym, subst, ◌∙◌}
use Rattle.std.proofs.lemmas.Option.{get_or_from_slice_get}
use Rattle.chacha_base.proofs.backends.kernel.mixed_words.Goals as goal

-- answered for speed
pub returns-clause-words : goal.returns-clause-words
returns-clause-words g c i inside =
    get_or_from_slice_get c.store.new.buffers i _ []
    (c.store.ensures i (subst (λ n. i < n) (sym c.requires.width) inside))
    ∙ c.mixed_group.ensures.blocks i inside

-- answered for speed
pub returns-clause-steps : goal.returns-clause-steps
returns-clause-steps g c = c.mixed_group.ensures.steps
