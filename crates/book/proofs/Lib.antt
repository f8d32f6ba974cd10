-- The laws of a book's tables.
pub mod Rows
pub mod Lookup
pub mod Tables
pub mod Back
pub mod Parts
pub mod Bodies
pub mod Counts
pub mod Heads
pub mod Names
