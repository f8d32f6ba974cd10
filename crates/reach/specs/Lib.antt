-- What the contracts of `reach` cite.
pub mod Order
pub mod Table
pub mod Reaching
