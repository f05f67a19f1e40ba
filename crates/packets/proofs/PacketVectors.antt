-- Facts on a packet and on the window, so that another header, nonce, cipher, order of bytes or limit doesn't check.
use Rattle.std.proofs.Common.{◌≡◌, ◌∷◌, [], codes, replicate, slice_index, arith, refl, ap}
use Rattle.std.specs.List.{range_with_len}
use Rattle.chacha20poly1305.specs.ChaCha.{quarter, columns, diagonals, rounds, add_states}
use Rattle.chacha20poly1305.specs.Poly1305.{number, accumulator, tag_from}
use Rattle.chacha20poly1305.specs.Aead.{mac_key}
use Rattle.packets.specs.Packets.{packet_of, IsTransportData, Fits, Inbox, IsOpen, IsLast, taken}

-- libsodium 1.0.18 sealed it. The bytes of the index and of the counter all differ.
pub packet : packet_of (range_with_len 0x80 32) 0x4d3c2b1b 0x1f2e3d4c5b6a7989 (codes "attack at dawn") ≡
    0x04 ∷ 0x00 ∷ 0x00 ∷ 0x00 ∷ 0x1b ∷ 0x2b ∷ 0x3c ∷ 0x4d ∷ 0x89 ∷ 0x79 ∷ 0x6a ∷ 0x5b ∷ 0x4c ∷ 0x3d ∷ 0x2e
    ∷ 0x1f ∷ 0x03 ∷ 0xdd ∷ 0x41 ∷ 0xb0 ∷ 0x47 ∷ 0xc8 ∷ 0xa5 ∷ 0xc1 ∷ 0xad ∷ 0x1b ∷ 0x81 ∷ 0xb0 ∷ 0x95 ∷ 0x20
    ∷ 0x8f ∷ 0x61 ∷ 0x2c ∷ 0xef ∷ 0x46 ∷ 0xcd ∷ 0xd2 ∷ 0xc6 ∷ 0x0c ∷ 0xd1 ∷ 0x25 ∷ 0x99 ∷ 0xc5 ∷ 0x9e ∷ 0xc3
    ∷ 0x15 ∷ []
unfolding quarter columns diagonals rounds add_states mac_key number accumulator tag_from packet_of
packet = refl

-- it has at least a header and a tag, and begins with the type
pub least : IsTransportData (4 ∷ replicate 31 0)
least = (omega arith, refl)

pub too_short : IsTransportData (4 ∷ replicate 30 0) → ⊥
too_short is = omega (arith, is.0)

pub other_type : IsTransportData (4 ∷ 0 ∷ 0 ∷ 1 ∷ replicate 28 0) → ⊥
other_type is = omega (arith, ap (λ xs. slice_index xs 3) is.1)

-- the output needs room for the text alone
pub room : Fits (replicate 35 0) (replicate 3 0)
room = (omega arith, omega arith)

pub no_text : Fits (replicate 32 0) []
no_text = (omega arith, omega arith)

pub too_long : Fits (replicate 36 0) (replicate 3 0) → ⊥
too_long fits = omega (arith, fits.1)

pub no_tag : Fits (replicate 31 0) [] → ⊥
no_tag fits = omega (arith, fits.0)

abbrev fresh : Inbox
fresh = record { key = []; slots = replicate 64 0 }

-- at first all counters are open but the last one
pub first : IsOpen fresh 0
first = (omega arith, omega arith)

pub last : IsOpen fresh 0xfffffffffffffffe
last = (omega arith, omega arith)

pub unused : IsOpen fresh 0xffffffffffffffff → ⊥
unused is = omega (arith, is.0)

-- behind 164, 101 still is, and 100 is not
pub inside : IsOpen (taken fresh 164) 101
inside = (omega arith, omega arith)

pub outside : IsOpen (taken fresh 164) 100 → ⊥
outside is = omega (arith, is.1)

-- 164 was its slot's last one, 100 was not
pub again : IsLast (taken fresh 164) 164
again = refl

pub older : IsLast (taken fresh 164) 100 → ⊥
older is = omega (arith, is)
