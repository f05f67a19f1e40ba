pub mod KeyLemmas
pub mod KeyVectors
