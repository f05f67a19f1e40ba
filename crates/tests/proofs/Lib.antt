pub mod RandChachaLemmas
pub mod FillVectors
