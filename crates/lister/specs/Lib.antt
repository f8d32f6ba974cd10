-- What the contracts of `lister` cite.
pub mod Listing
pub mod Buffer
pub mod Steps
