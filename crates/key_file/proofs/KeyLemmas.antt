-- Keys as text.
use Rattle.std.proofs.Common.{◌≡◌, ◌+◌, ◌++◌, ℕ, List, length, take, drop, codes, ◌∙◌, refl, sym, arith, ap}
use Rattle.std.proofs.lemmas.List.{append_assoc, length-append, take-append-drop, take_at, drop_at}
use Rattle.std.specs.declared.result.Result.TheVariants.{Ok}
use Rattle.base64.specs.Engines.{standard}
use Rattle.base64.specs.GeneralPurpose.{IsBytes, decode_of, encode_of}
use Rattle.base64.specs.Rfc4648.{encode_symbols}
use Rattle.base64.proofs.EngineFacts.{decode_of-encode_of}
use Rattle.base64.proofs.RoundTrip.{length-encode_symbols}
use Rattle.key_file.specs.KeyFile.{key_text}

pub decodes : (key text : List ℕ) → IsBytes key → text ≡ encode_of standard key
    → decode_of standard text ≡ Ok key
decodes key text bytes e = rw e (decode_of-encode_of standard key refl bytes)

-- A file of a key's text has 44 characters after the prefix, and then the end of its line.
pub parts : (key end file : List ℕ) → length key ≡ 32 → file ≡ key_text key ++ end
    → (length file ≡ 56 + length end) × (take 44 (drop 12 file) ≡ encode_of standard key)
    × (drop 44 (drop 12 file) ≡ end)
parts key end file size e =
    let text = encode_of standard key in
    let after : drop 12 file ≡ text ++ end = rw (e, append_assoc (codes "seal-key-v1:") text end) refl in
    let symbols = length-encode_symbols standard.encode_table key in
    let long : length text ≡ 44 =
    rw (length-append (encode_symbols standard.encode_table key), symbols, size) refl in (
      omega (arith, ap length e, length-append (key_text key) end, length-append (codes "seal-key-v1:") text, long),
      rw after (take_at text end 44 long),
      rw after (drop_at text end 44 long),
    )

-- A prefix, a key's characters and the rest make a file of the key's text.
pub joined : (file key : List ℕ) → take 12 file ≡ codes "seal-key-v1:"
    → take 44 (drop 12 file) ≡ encode_of standard key
    → file ≡ key_text key ++ drop 44 (drop 12 file)
joined file key prefix text =
    let rest = drop 12 file in
    let front : take 12 file ++ take 44 rest ≡ key_text key = rw (prefix, text) refl in
    sym (take-append-drop 12 file) ∙ ap (λ (r : List ℕ). take 12 file ++ r) (sym (take-append-drop 44 rest))
    ∙ sym (append_assoc (take 12 file) (take 44 rest) (drop 44 rest)) ∙ ap (λ (f : List ℕ). f ++ drop 44 rest) front
