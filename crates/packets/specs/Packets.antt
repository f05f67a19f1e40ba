-- WireGuard's transport data messages: what is sent, and which ones a receiver takes.
use Rattle.std.specs.Prelude.{◌≡◌, ◌<◌, ◌≤◌, ◌+◌, ◌++◌, ◌∷◌, ◌%◌, ◌^◌, ℕ, List, [], length, take, drop, replicate, slice_index, slice_set}
use Rattle.std.specs.Int.{to_le_bytes, from_le_bytes, w32, w64}
use Rattle.chacha20poly1305.specs.ChaCha.{ietf, chacha_stream}
use Rattle.chacha20poly1305.specs.Aead.{sealed_message}

-- the header: the type, 4 in four bytes; the index of the receiver; the counter
abbrev pub header_of : ℕ → ℕ → List ℕ
header_of index counter =
    4 ∷ 0 ∷ 0 ∷ 0 ∷ to_le_bytes w32 index ++ to_le_bytes w64 counter

-- the nonce of the packet with this counter: four zeros and the counter
abbrev pub nonce_of : ℕ → List ℕ
nonce_of counter = replicate 4 0 ++ to_le_bytes w64 counter

-- its keystream
abbrev pub stream_of : List ℕ → ℕ → ℕ → ℕ
stream_of key counter = chacha_stream 10 ietf key (nonce_of counter)

-- the packet of a text: the header, and the sealed text without associated data
unfoldable pub packet_of : List ℕ → ℕ → ℕ → List ℕ → List ℕ
packet_of key index counter text =
    header_of index counter ++ sealed_message (stream_of key counter) [] text

-- the index and the counter in a packet's header
unfoldable pub index_of : List ℕ → ℕ
index_of packet = from_le_bytes w32 (take 4 (drop 4 packet))

unfoldable pub counter_of : List ℕ → ℕ
counter_of packet = from_le_bytes w64 (take 8 (drop 8 packet))

-- these bytes have room for a header and a tag, and begin with the type
abbrev pub IsTransportData : List ℕ → Type 0
IsTransportData bytes = (32 ≤ length bytes) × (take 4 bytes ≡ 4 ∷ 0 ∷ 0 ∷ 0 ∷ [])

-- these bytes are the packet of some text under this key, with the index and the counter in them
unfoldable pub IsPacket : List ℕ → List ℕ → Type 0
IsPacket key bytes =
    (text : List ℕ) × (64 + length text ≤ 2 ^ 38)
    × (bytes ≡ packet_of key (index_of bytes) (counter_of bytes) text)

-- a sender: its key, the index of the receiver, and the counter of its next packet
pub record Outbox : Type 0 where
  pub key : List ℕ
  pub index : ℕ
  pub next : ℕ

-- a receiver: its key, and 64 slots; slot n % 64 has the greatest counter that it took there plus 1, or 0
pub record Inbox : Type 0 where
  pub key : List ℕ
  pub slots : List ℕ

-- a packet has room for a header and a tag, and the output for its text
abbrev pub Fits : List ℕ → List ℕ → Type 0
Fits packet output = (32 ≤ length packet) × (length packet ≤ length output + 32)

-- counter n is open: its slot has no counter from n on, and a sender uses n
abbrev pub IsOpen : Inbox → ℕ → Type 0
IsOpen r n = (n + 1 < 2 ^ 64) × (slice_index r.slots (n % 64) ≤ n)

-- counter n is the last one that its slot took
abbrev pub IsLast : Inbox → ℕ → Type 0
IsLast r n = slice_index r.slots (n % 64) ≡ n + 1

-- the receiver after the packet with counter n
abbrev pub taken : Inbox → ℕ → Inbox
taken r n = record r { slots = slice_set r.slots (n % 64) (n + 1) }
