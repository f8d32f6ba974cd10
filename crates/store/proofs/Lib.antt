-- Laws of a run of stores.
pub mod Stored
