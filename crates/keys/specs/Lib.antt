-- What the contracts of `keys` cite.
pub mod Keyed
pub mod Numbers
