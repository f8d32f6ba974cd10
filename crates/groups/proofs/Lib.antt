-- Laws that the proofs of `groups` cite.
pub mod Runs
pub mod Names
pub mod Rules
pub mod Left
pub mod Loop
pub mod Tables
