-- Laws that proofs of backends may cite: of states and of their blocks, as StateLemmas states them, and of counts.
-- `s` is the first state, of sixteen words that fit (`Words`), and `t` the one some blocks on. In an
-- answer `c.told-state` and `c.fits-state` say of an argument `state` that it is such a state.

-- no blocks on; i blocks on, and then j; k blocks more than a
pub use Rattle.chacha_base.proofs.StateLemmas.{Words, state_after-zero, state_after-state_after, state_after-more}
-- block i of the state k blocks on
pub use Rattle.chacha_base.proofs.StateLemmas.{next_block-state_after}
-- a list of blocks, written from its front on: one block more, and k blocks more
pub use Rattle.chacha_base.proofs.StateLemmas.{next_block-more, next_blocks-more}
-- the words of a generator, written in the same way: one block more, and all of them
pub use Rattle.chacha_base.proofs.StateLemmas.{next_words-more, next_words-are}
-- the sums of two states, word by word
pub use Rattle.chacha_base.proofs.RoundLemmas.{add_states_are}
-- counts with so many quarter rounds more: those of no block, and of one block more
pub use Rattle.chacha_base.proofs.CountsLemmas.{plus_rounds, counted-none, counted-more}
