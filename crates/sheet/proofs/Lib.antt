-- The laws of proof sheets.
pub mod Stored
pub mod Fields
pub mod Open
pub mod Sound
pub mod Tables
pub mod Entries
pub mod Turns
pub mod Judged
