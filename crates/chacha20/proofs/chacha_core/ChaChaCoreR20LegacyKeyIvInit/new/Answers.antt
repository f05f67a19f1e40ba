use Rattle.std.proofs.Common.{◌∙◌, append_assoc, append-nil}
use Rattle.chacha_base.specs.ChaCha.{legacy}
use Rattle.chacha20.proofs.StartLemmas.{blocks-of-start, first-of-start}
use Rattle.chacha20.proofs.chacha_core.ChaChaCoreR20LegacyKeyIvInit.new.Goals as goal

pub returns-clause-value : goal.returns-clause-value
returns-clause-value g c = rw c.read_words.ensures at c.start_state.ensures ∙ simp (append_assoc, append-nil)

pub returns-clause-keystream : goal.returns-clause-keystream
returns-clause-keystream g c =
    blocks-of-start 10 legacy c.args.key.now c.args.iv.now _ c.told-key (returns-clause-value g c)

pub returns-clause-first : goal.returns-clause-first
returns-clause-first g c = first-of-start legacy c.args.key.now c.args.iv.now _ c.told-key (returns-clause-value g c)
