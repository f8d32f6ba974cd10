-- The numbers that the exported calls answer.
pub mod Numbers
