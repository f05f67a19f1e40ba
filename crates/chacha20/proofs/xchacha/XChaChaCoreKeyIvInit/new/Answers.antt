use Rattle.std.proofs.Common.{◌≡◌, ℕ, List, ◌∙◌, length, ap, ap₂, arith}
use Rattle.chacha_base.specs.ChaCha.{ietf, start}
use Rattle.chacha20.specs.XChaCha.{subkey, subnonce}
use Rattle.chacha20.proofs.StartLemmas.{blocks-of-start}
use Rattle.chacha20.proofs.xchacha.XChaChaCoreKeyIvInit.new.Goals as goal

pub returns : goal.returns
returns g c =
    let n = g.R.Rounds.COUNT in
    let long : length (subkey n c.args.key.now c.args.iv.now) ≡ 32 = omega (arith, ap length c.subkey.ensures) in
    let value =
    c.new.ensures.value ∙ ap₂ (λ (k iv : List ℕ). start ietf k iv 0) c.subkey.ensures c.subnonce.ensures in
    record {
      value = value;
      keystream = blocks-of-start n ietf (subkey n c.args.key.now c.args.iv.now) (subnonce c.args.iv.now) _ long value;
      first = c.new.ensures.first;
    }
