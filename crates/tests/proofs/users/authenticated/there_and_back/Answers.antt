use Rattle.std.proofs.Common.{◌≡◌, ◌∙◌, length, arith, refl, ap}
use Rattle.chacha20.proofs.KeystreamLemmas.{length-xor_stream}
use Rattle.chacha20.proofs.StdLemmas.{on_ok-holds}
use Rattle.tests.proofs.users.authenticated.there_and_back.Goals as goal

pub returns-clause-accepted : goal.returns-clause-accepted
returns-clause-accepted g c =
    let sealed = c.in_ok-tag.ensures in
    let same : length c.encrypt_in_place_detached.new.message ≡ length c.args.message.now =
    ap length sealed.ciphertext ∙ length-xor_stream _ 64 c.args.message.now in (
      λ ok. sealed.accepted.0 refl,
      λ fits. c.decrypt_in_place_detached.ensures.accepted.1 (
        omega (arith, fits, same),
        sealed.tag,
      ),
    )

pub returns-clause-message : goal.returns-clause-message
returns-clause-message g c =
    let sealed = c.in_ok-tag.ensures in
    on_ok-holds c.decrypt_in_place_detached.result ((returns-clause-accepted g c).1 (sealed.accepted.0 refl))
    (c.decrypt_in_place_detached.ensures.decrypted c.args.message.now sealed.ciphertext)
