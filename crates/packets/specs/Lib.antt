-- What clauses of public calls rest on.
pub mod Packets
pub mod ErrorText
