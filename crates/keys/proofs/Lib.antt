-- The laws of the table of keys.
pub mod Found
pub mod Declared
pub mod Plain
pub mod Joined
