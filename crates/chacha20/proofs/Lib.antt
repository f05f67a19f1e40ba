-- What proofs of callers cite.
pub mod RepeatedLemmas
pub mod StdLemmas
pub use Rattle.chacha_base.proofs.KeystreamLemmas
pub use Rattle.chacha_base.proofs.PieceLemmas
pub use Rattle.chacha_base.proofs.CipherLemmas
pub use Rattle.chacha_base.proofs.BackendLaws
-- What only proofs of these crates cite.
pub mod BlocksLemmas
pub mod StartLemmas
pub mod RunLemmas
pub mod RunVectors
pub mod XChaChaVectors
pub mod GeneratorVectors
pub mod GeneratorLemmas
pub mod ReadLemmas
pub mod StateBytesLemmas
