-- What the contracts of `index` cite.
pub mod Index
pub mod Passes
