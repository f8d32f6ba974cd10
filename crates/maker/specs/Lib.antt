-- What the maker promises, and what its functions tell each other.
pub mod Result
pub mod Making
