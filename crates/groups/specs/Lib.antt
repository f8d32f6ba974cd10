-- What the contracts of `groups` cite.
pub mod Whole
pub mod Parts
