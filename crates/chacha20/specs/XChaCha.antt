-- HChaCha and XChaCha (draft-irtf-cfrg-xchacha, 2.2 and 2.3).
use Rattle.std.specs.Prelude.{ℕ, List, ◌++◌, take, drop, replicate}
use Rattle.chacha_base.specs.ChaCha.{bytes, words, constants, rounds, ietf, chacha_stream}

-- the 32 bytes of a key and 16 more bytes: the first and the last row after n double rounds,
-- without the start state added
abbrev pub hchacha : ℕ → List ℕ → List ℕ → List ℕ
hchacha n key input =
    let r = rounds n (constants ++ words key ++ words input) in bytes (take 4 r ++ drop 12 r)

-- the key of XChaCha's blocks, from the first 16 bytes of the nonce
abbrev pub subkey : ℕ → List ℕ → List ℕ → List ℕ
subkey n key nonce = hchacha n key (take 16 nonce)

-- the nonce of its blocks: four zeros, and then what the subkey has not used
abbrev pub subnonce : List ℕ → List ℕ
subnonce nonce = replicate 4 0 ++ drop 16 nonce

-- the keystream of a key and a nonce of 24 bytes, after n double rounds
abbrev pub xchacha_stream : ℕ → List ℕ → List ℕ → ℕ → ℕ
xchacha_stream n key nonce = chacha_stream n ietf (subkey n key nonce) (subnonce nonce)
