use Rattle.examples.proofs.message.encrypt_from_block_1.Goals as goal
use Rattle.std.proofs.lemmas.Result.{on_err_weaker}

-- answered for speed
pub returns-clause-accepted : goal.returns-clause-accepted
returns-clause-accepted c = rw c.seek.ensures.position at c.try_apply_keystream.ensures.accepted

pub returns-clause-bytes : goal.returns-clause-bytes
returns-clause-bytes c =
    let sought = c.seek.ensures in
    rw (← c.new-cipher.ensures.keystream) (rw (sought.fixed, sought.position) at c.try_apply_keystream.ensures.bytes)

-- answered for speed
pub returns-clause-refused : goal.returns-clause-refused
returns-clause-refused c = on_err_weaker {P = _ × _} _ (λ same. same.0) c.try_apply_keystream.ensures.refused
