-- The laws of the index.
pub mod Placed
pub mod Indexed
pub mod Walks
