-- What a book means.
pub mod Limits
pub mod Book
