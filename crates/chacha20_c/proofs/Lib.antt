pub mod ChunkLemmas
pub mod FillLemmas
pub mod GroupLemmas
