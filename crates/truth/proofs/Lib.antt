-- The laws of tests.
pub mod Truth
