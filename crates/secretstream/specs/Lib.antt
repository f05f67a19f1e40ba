-- What clauses of public calls rest on.
pub mod Stream
pub mod StateBytes
pub mod Tags
pub mod ErrorText
-- What the laws on lists speak of.
pub mod Lists
