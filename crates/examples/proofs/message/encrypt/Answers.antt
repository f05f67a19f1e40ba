use Rattle.std.proofs.lemmas.Result.{on_err_weaker}
use Rattle.examples.proofs.message.encrypt.Goals as goal

-- answered for speed
pub returns-clause-bytes : goal.returns-clause-bytes
returns-clause-bytes c = rw (← c.new.ensures.keystream, ← c.new.ensures.first) c.try_apply_keystream.ensures.bytes

-- answered for speed
pub returns-clause-refused : goal.returns-clause-refused
returns-clause-refused c = on_err_weaker {P = _ × _} _ (λ same. same.0) c.try_apply_keystream.ensures.refused
