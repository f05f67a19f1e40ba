use Rattle.std.proofs.Common.{◌≡◌, ◌∙◌, IsErrAnd, refl, ap, sym, subst}
use Rattle.poly1305.specs.Poly1305.{poly1305}
use Rattle.chacha20poly1305.specs.Aead.{mac_text}
use Rattle.chacha20poly1305.proofs.message.begin_verified.Goals as goal

pub returns-clause-accepted : goal.returns-clause-accepted
returns-clause-accepted g c =
    let begun = c.in_ok-begin.ensures in
    let text = mac_text c.args.aad.now c.args.ciphertext.now in (
      λ ok. (
        begun.accepted.0 refl,
        sym (c.if-not-is_equal.ensures.0 refl) ∙ c.tag_of-expected.ensures
            ∙ ap (λ key. poly1305 key text) (c.mac_key.ensures ∙ begun.mac_key),
      ),
      λ right. refl,
    )

-- answered for speed
pub returns-clause-wrong_tag : goal.returns-clause-wrong_tag
returns-clause-wrong_tag g c = (
  λ err. absurd (subst (λ r. IsErrAnd r (λ e. e ≡ e)) (sym err) refl),
  λ wrong. absurd (wrong.1 ((returns-clause-accepted g c).0 refl).1),
)
