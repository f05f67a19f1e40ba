use Rattle.std.proofs.Common.{zero-add}
use Rattle.examples.proofs.message.encrypt_by.Goals as goal

pub returns-clause-accepted : goal.returns-clause-accepted
returns-clause-accepted g c =
    rw (c.new.ensures.first, g.met.C.StreamCipher.first_is, zero-add) at c.try_apply_keystream.ensures.accepted

pub returns-clause-bytes : goal.returns-clause-bytes
returns-clause-bytes g c =
    let made = c.new.ensures in
    rw (made.keystream, made.first, g.met.C.StreamCipher.first_is) at c.try_apply_keystream.ensures.bytes
