-- The laws of passes and of the model.
pub mod Pass
pub mod Tables
pub mod Growth
pub mod Settled
pub mod Published
