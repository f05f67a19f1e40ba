use Rattle.std.specs.Prelude.{IsOk}
use Rattle.chacha20.proofs.StdLemmas.{on_err-holds, is_err-holds}
use Rattle.tests.proofs.users.wireguard.twice.Goals as goal

pub returns-clause-refused : goal.returns-clause-refused
returns-clause-refused c =
    let never : IsOk c.receive-2.result → ⊥ = λ ok.
    c.in_ok-receive.ensures.replay (c.receive-2.ensures.accepted.0 ok).1 in
    rw (c.is_err.ensures.value) (is_err-holds c.receive-2.result never)

pub returns-clause-copy : goal.returns-clause-copy
returns-clause-copy c =
    let never : IsOk c.receive-2.result → ⊥ = λ ok.
    c.in_ok-receive.ensures.replay (c.receive-2.ensures.accepted.0 ok).1 in
    (on_err-holds c.receive-2.result never c.receive-2.ensures.refused).1
