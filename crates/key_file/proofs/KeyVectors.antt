-- Facts on key files, so that another prefix, alphabet or end doesn't check. `base64` of GNU coreutils wrote the line.
use Rattle.std.proofs.Common.{◌≡◌, [], ◌∷◌, codes, refl, inl, inr}
use Rattle.base64.proofs.OnLiterals.{base64_on_literals}
use Rattle.key_file.specs.KeyFile.{key_text, IsLineEnd}

pub text : key_text (0xfb ∷ 0xef ∷ 0xbe ∷ 0xff ∷ 0xff ∷ 0xff ∷ 0x00 ∷ 0x01 ∷ 0x02 ∷ 0x03 ∷ 0x04 ∷ 0x05 ∷ 0x06
    ∷ 0x07 ∷ 0x08 ∷ 0x09 ∷ 0x0a ∷ 0x0b ∷ 0x0c ∷ 0x0d ∷ 0x0e ∷ 0x0f ∷ 0x10 ∷ 0x11 ∷ 0x12 ∷ 0x13 ∷ 0x14 ∷ 0x15
    ∷ 0x16 ∷ 0x17 ∷ 0x18 ∷ 0x19 ∷ []) ≡ codes "seal-key-v1:++++////AAECAwQFBgcICQoLDA0ODxAREhMUFRYXGBk="
unfolding base64_on_literals
text = refl

pub none : IsLineEnd []
none = inl refl

pub newline : IsLineEnd (10 ∷ [])
newline = inr (inl refl)

pub crlf : IsLineEnd (13 ∷ 10 ∷ [])
crlf = inr (inr refl)
