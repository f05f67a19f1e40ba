-- What proofs of callers cite; nonces that are made of parts are `chacha20`'s.
pub use Rattle.chacha20.proofs.StdLemmas
pub mod AeadLemmas
pub mod AeadVectors
pub mod MessageLemmas
