-- What any bytes are as a file under a key: the text of the first chunks that are right, and what is wrong behind them.
use Rattle.std.specs.Prelude.{ℕ, zero, suc, ◌+◌, ◌-◌, ◌/◌, ◌^◌, min, nat_lt, nat_le, Bool, true, false, not, ◌&&◌, if◌then◌else◌}
use Rattle.std.specs.Prelude.{List, [], ◌++◌, take, drop, length, bytes_eq, Some, None}
use Rattle.std.specs.declared.option.Option.{Option}
use Rattle.chacha20.specs.XChaCha.{xchacha_stream}
use Rattle.chacha20poly1305.specs.Aead.{encrypted}
use Rattle.sealed_file.specs.declared.error.Damage.{Damage}
use Rattle.sealed_file.specs.declared.error.Damage.TheVariants.{TooLong}
use Rattle.sealed_file.specs.Sealed.{chunk, chunk_nonce, damage_at, header_damage}

-- what the bytes of chunk i decrypt to: XChaCha20 decrypts by encrypting again
abbrev pub decrypted : List ℕ → List ℕ → ℕ → Bool → List ℕ → List ℕ
decrypted key salt i last bytes =
    encrypted (xchacha_stream 10 key (chunk_nonce salt i last)) (take (length bytes - 16) bytes)

-- the text of chunk i, or what is wrong: a file has at most 2^32 chunks, and only chunk 0 may have an empty text
abbrev pub opened_chunk : List ℕ → List ℕ → ℕ → Bool → List ℕ → List ℕ × Option Damage
opened_chunk key salt i last bytes =
    let text = decrypted key salt i last bytes in
    if not (nat_lt i (2 ^ 32)) then ([], Some TooLong)
    else (if bytes_eq bytes (chunk key salt i last text) && nat_le (min i 1) (length text)
    then (text, None)
    else ([], Some (damage_at i last)))

-- a text, and what follows, unless that text is damaged behind
abbrev pub followed : List ℕ × Option Damage → List ℕ × Option Damage → List ℕ × Option Damage
followed (text, None) (more, damage) = (text ++ more, damage)
followed (text, Some damage) rest = (text, Some damage)

-- from chunk i on, which n more and the last one follow
abbrev pub opened_from : List ℕ → List ℕ → ℕ → ℕ → List ℕ → List ℕ × Option Damage
opened_from key salt zero i bytes = opened_chunk key salt i true bytes
opened_from key salt (suc n) i bytes =
    followed (opened_chunk key salt i false (take 65552 bytes))
    (opened_from key salt n (i + 1) (drop 65552 bytes))

-- all chunks but the last have 65552 bytes
abbrev pub opened_rest : List ℕ → List ℕ → ℕ → List ℕ → List ℕ × Option Damage
opened_rest key salt i bytes = opened_from key salt ((length bytes - 1) / 65552) i bytes

-- the text of a file and no damage, or the text before the damage
abbrev pub opened : List ℕ → List ℕ → List ℕ × Option Damage
opened key file =
    followed ([], header_damage file) (opened_rest key (take 19 (drop 13 file)) 0 (drop 32 file))
