use Rattle.std.proofs.Common.{refl}
use Rattle.chacha20.proofs.KeystreamLemmas.{xor_stream-xor_stream, length-xor_stream}
use Rattle.chacha20.proofs.StdLemmas.{on_ok-holds}
use Rattle.tests.proofs.users.readme.encrypt_and_decrypt.Goals as goal

pub returns : goal.returns
returns c =
    let first = c.in_ok-encrypt.ensures in
    let fits = rw (first.bytes, length-xor_stream) at c.encrypt-2.ensures.accepted in
    let same = rw (first.bytes, xor_stream-xor_stream) at c.encrypt-2.ensures.bytes in
    on_ok-holds c.encrypt-2.result (fits.1 (first.accepted.0 refl)) same
