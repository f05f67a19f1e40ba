use Rattle.std.proofs.Common.{◌≡◌, take, drop}
use Rattle.chacha20.specs.Runs.{setting, cipher_run}
use Rattle.chacha20.proofs.RunLemmas.{behind}
use Rattle.chacha20.proofs.runs.run_cipher.Given as goal

abbrev pub invariant-calls : goal.invariant-calls
invariant-calls g l =
    let s = setting g.C.Keystream.modulus g.C.Keystream.block_at l.input in
    cipher_run s l.fn.cipher l.fn.«data» l.calls
    ≡ behind (take l.i l.answers) (cipher_run s l.cipher l.«data» (drop l.i l.calls))
