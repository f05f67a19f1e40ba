use Rattle.chacha_base.specs.ChaCha.{words}
use Rattle.chacha_base.proofs.BytesLemmas.{length-words}
use Rattle.chacha20.proofs.StartLemmas.{written}
use Rattle.chacha20.proofs.chacha_core.start_state.Goals as goal

pub returns : goal.returns
returns c =
    rw (c.copy_from_slice.ensures.after, c.read_words.ensures)
    (written (words c.args.key.now) c.args.last_row.now (length-words 8 _ c.told-key) c.told-last_row)

pub read_words-requires : goal.read_words-requires
read_words-requires c = rw c.copy_from_slice.ensures.after c.told-key
