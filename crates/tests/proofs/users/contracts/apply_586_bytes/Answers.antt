use Rattle.std.proofs.Common.{◌≡◌, ap}
use Rattle.tests.proofs.users.contracts.apply_586_bytes.Goals as goal

pub returns-clause-steps : goal.returns-clause-steps
returns-clause-steps g c =
    let position : c.new.result.position ≡ 0 = ap (λ w. w.position) c.new.ensures.value in
    rw position at c.try_apply_keystream_counted.ensures.steps
