pub mod DamageText
pub mod Opened
pub mod Ranges
pub mod Sealed
pub mod SealedReader
