-- The laws of the walks over a lent run of entries.
pub mod Runs
