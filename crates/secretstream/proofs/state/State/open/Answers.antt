use Rattle.std.proofs.Common.{◌≤◌, ◌+◌, ◌∙◌, ◌^◌, ℕ, length, refl, sym, ap, ap₂, arith, slice_index}
use Rattle.std.specs.Prelude.{is_err}
use Rattle.std.proofs.lemmas.Bool.{false≢true}
use Rattle.chacha20.specs.ChaCha.{xor_stream}
use Rattle.secretstream.specs.Stream.{message_of, mac_of}
use Rattle.secretstream.proofs.MessageLemmas.{read, read-right, read-message, tag-opened, length-message_of}
use Rattle.secretstream.proofs.state.State.open.Goals as goal

pub returns-then-is_err-clause-accepted : goal.returns-then-is_err-clause-accepted
returns-then-is_err-clause-accepted g c = (
  λ no. absurd (false≢true no),
  λ sent.
      let size = length-message_of c.args.self.now c.args.aad.now sent.0 sent.1 in
      let fits : c.begin-cipher.result.0.position + length c.split_at-2.result.0.now ≤ 2 ^ 38 =
      omega (
        arith,
        sent.2,
        ap length sent.3,
        size,
        c.requires,
        c.begin-cipher.ensures.position,
        c.split_at-2.ensures.front_len,
      ) in
      let accepted = c.check_remaining.ensures.accepted.1 fits in
      absurd (false≢true (sym c.if-is_err.ensures.negation ∙ accepted)),
)

pub returns-then-not-is_equal-clause-accepted : goal.returns-then-not-is_equal-clause-accepted
returns-then-not-is_equal-clause-accepted g c =
    let begun = c.begin-cipher.ensures in
    let r = read c.args.self.now c.args.aad.now c.args.bytes.now (length c.args.output.now) c.requires
    c.split_at.ensures.front c.split_at.ensures.back c.split_at-2.ensures.front c.split_at-2.ensures.back begun.key
    begun.block c.mac_of-mac.ensures in (
      λ no. absurd (false≢true no),
      λ sent. sym (c.if-not-is_equal.true)
          ∙ c.is_equal.ensures.1 (read-right r sent ∙ sym c.copy_from_slice.ensures.after),
    )

pub returns-then-not-is_equal-clause-forged : goal.returns-then-not-is_equal-clause-forged
returns-then-not-is_equal-clause-forged g c =
    let fits : 128 + length c.args.output.now ≤ 2 ^ 38 =
    omega (
      arith,
      c.check_remaining.ensures.accepted.0 c.if-is_err.ensures.negation,
      c.begin-cipher.ensures.position,
      c.requires,
      c.split_at-2.ensures.front_len,
    ) in
    (λ _. (fits, λ sent. false≢true ((returns-then-not-is_equal-clause-accepted g c).1 sent)), λ _. refl)

pub returns-clause-message : goal.returns-clause-message
returns-clause-message g c =
    let s = c.args.self.now in
    let begun = c.begin-cipher.ensures in
    let r = read s c.args.aad.now c.args.bytes.now (length c.args.output.now) c.requires
    c.split_at.ensures.front c.split_at.ensures.back c.split_at-2.ensures.front c.split_at-2.ensures.back begun.key
    begun.block c.mac_of-mac.ensures in
    let text = c.apply_keystream_b2b.ensures.bytes
    ∙ ap₂ (λ (st : ℕ → ℕ) p. xor_stream st p c.split_at-2.result.0.now) begun.stream begun.position in
    let tag = ap (λ xs. slice_index xs 0) begun.block in
    read-message r (c.is_equal.ensures.0 c.if-not-is_equal.false ∙ c.copy_from_slice.ensures.after)
    ∙ sym (ap₂ (message_of s c.args.aad.now) tag text)

pub returns-clause-mac : goal.returns-clause-mac
returns-clause-mac g c =
    let s = c.args.self.now in
    let begun = c.begin-cipher.ensures in
    let r = read s c.args.aad.now c.args.bytes.now (length c.args.output.now) c.requires
    c.split_at.ensures.front c.split_at.ensures.back c.split_at-2.ensures.front c.split_at-2.ensures.back begun.key
    begun.block c.mac_of-mac.ensures in
    let text = c.apply_keystream_b2b.ensures.bytes
    ∙ ap₂ (λ (st : ℕ → ℕ) p. xor_stream st p c.split_at-2.result.0.now) begun.stream begun.position in
    let tag = ap (λ xs. slice_index xs 0) begun.block in
    r.is ∙ tag-opened s c.args.aad.now (slice_index c.split_at.result.0.now 0) c.split_at-2.result.0.now
    ∙ sym (ap₂ (mac_of s c.args.aad.now) tag text)

pub returns-clause-accepted : goal.returns-clause-accepted
returns-clause-accepted g c = (
  λ ok. (
    slice_index c.begin-cipher.result.2 0,
    c.apply_keystream_b2b.new.output,
    omega (
      arith,
      c.check_remaining.ensures.accepted.0 c.if-is_err.ensures.negation,
      c.begin-cipher.ensures.position,
      c.apply_keystream_b2b.auto.output,
      c.requires,
      c.split_at-2.ensures.front_len,
    ),
    returns-clause-message g c,
  ),
  λ sent. refl,
)

pub returns-clause-forged : goal.returns-clause-forged
returns-clause-forged g c = (
  λ no. absurd (false≢true (ap is_err no)),
  λ forged. absurd (forged.1 ((returns-clause-accepted g c).0 refl)),
)
