use Rattle.std.proofs.Common.{Err, ap}
use Rattle.sealed_file.proofs.reader.SealedReaderRead.read.Goals as goal

pub returns-in-Err-Damaged-clause-damaged : goal.returns-in-Err-Damaged-clause-damaged
returns-in-Err-Damaged-clause-damaged g c is =
    let damage = c.in-Err-Damaged.field-0-0 in
    (damage, c.in-Err-Damaged.ensures.damaged damage (ap Err c.in-Err-Damaged.field-0-is))
