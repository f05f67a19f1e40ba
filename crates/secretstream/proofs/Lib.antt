pub mod MessageLemmas
pub mod StateBytesLemmas
pub mod StreamLaws
pub mod StreamVectors
