-- What clauses of public calls rest on.
pub mod ChaCha
pub mod State
pub mod Cipher
pub mod Counts
-- What only clauses of inner functions use.
pub mod Number
pub mod Buffered
pub mod Lanes
