-- What the contracts of `nameset` cite.
pub mod Names
