-- What a marking file says.
pub mod File
pub mod Conditions
pub mod NoBytes
pub mod Capitals
pub mod Loading
pub mod Sizing
pub mod Tables
pub mod Steps
