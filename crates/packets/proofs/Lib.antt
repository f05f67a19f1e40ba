pub mod PacketLemmas
pub mod PacketVectors
