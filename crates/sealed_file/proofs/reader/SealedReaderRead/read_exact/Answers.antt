use Rattle.std.proofs.Common.{Err, ap}
use Rattle.sealed_file.specs.Ranges.{StopsAt, before, empty}
use Rattle.sealed_file.proofs.reader.SealedReaderRead.read_exact.Goals as goal

pub returns-in-Err-Damaged-clause-damaged : goal.returns-in-Err-Damaged-clause-damaged
returns-in-Err-Damaged-clause-damaged g c is =
    let damage = c.in-Err-Damaged.field-0-0 in
    let (i, _, wrong) = c.in-Err-Damaged.ensures.damaged damage (ap Err c.in-Err-Damaged.field-0-is) in
    (i, damage, wrong)

pub returns-in-Err-Damaged-clause-partly : goal.returns-in-Err-Damaged-clause-partly
unfolding StopsAt
returns-in-Err-Damaged-clause-partly g c =
    let (i, (_, _, has, rest), _) =
    c.in-Err-Damaged.ensures.damaged c.in-Err-Damaged.field-0-0 (ap Err c.in-Err-Damaged.field-0-is) in
    (before c.args.self.now.position i, rest, has)

pub returns-in-Err-Read-clause-partly : goal.returns-in-Err-Read-clause-partly
unfolding StopsAt
returns-in-Err-Read-clause-partly g c =
    let (_, (i, (_, _, has, rest))) = c.in-Err-Read.ensures.fails c.in-Err-Read.e (ap Err c.in-Err-Read.field-0-is) in
    (before c.args.self.now.position i, rest, has)

pub returns-in-Err-PastEnd-clause-partly : goal.returns-in-Err-PastEnd-clause-partly
returns-in-Err-PastEnd-clause-partly g c =
    (0, c.in-Err-PastEnd.ensures.unchanged (ap Err c.in-Err-PastEnd.field-0-is), empty c.args.self.now.position)
