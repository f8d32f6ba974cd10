-- What the contracts of `fixpoint` cite.
pub mod Pass
pub mod Result
