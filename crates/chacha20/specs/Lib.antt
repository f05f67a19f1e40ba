-- What clauses of public calls rest on; first what `chacha_base` defines.
pub use Rattle.chacha_base.specs.ChaCha
pub use Rattle.chacha_base.specs.State
pub use Rattle.chacha_base.specs.Cipher
pub use Rattle.chacha_base.specs.Counts
pub mod XChaCha
pub mod Generator
pub mod Runs
pub mod GeneratorRuns
pub mod Text
-- What only clauses of inner functions use.
pub mod Blocks
pub mod GeneratorCore
