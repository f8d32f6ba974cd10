-- What the contracts of `litset` cite.
pub mod Words
pub mod Steps
