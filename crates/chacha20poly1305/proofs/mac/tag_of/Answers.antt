use Rattle.std.proofs.Common.{[], ◌≡◌, ◌∙◌, ◌++◌, ap, sym, length}
use Rattle.std.proofs.lemmas.List.{append_assoc, append-nil}
use Rattle.std.specs.Int.{w64, to_le_bytes}
use Rattle.poly1305.specs.Poly1305.{padding, poly1305}
use Rattle.chacha20poly1305.proofs.mac.tag_of.Goals as goal

pub returns : goal.returns
returns c =
    let key = c.args.mac_key.now in
    let aad = c.args.aad.now in
    let ciphertext = c.args.ciphertext.now in
    let both = aad ++ padding (length aad) ++ ciphertext ++ padding (length ciphertext) in
    let last = c.lengths.result in
    let whole : both ++ last ++ padding (length last) ≡ both ++ last =
    ap (λ n. both ++ last ++ padding n) (ap length c.lengths.ensures) ∙ append-nil (both ++ last) in
    c.finish.ensures key _ (c.update_padded-3.ensures.value key _
    (c.update_padded-2.ensures.value key _ (c.update_padded.ensures.value key [] c.new-mac.ensures)))
    ∙ ap (poly1305 key)
    (whole ∙ ap (λ l. both ++ l) c.lengths.ensures
    ∙ sym (append_assoc both (to_le_bytes w64 (length aad)) (to_le_bytes w64 (length ciphertext))))
