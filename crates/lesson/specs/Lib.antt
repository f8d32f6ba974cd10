-- What the contracts of `lesson` cite, and the conditions that turn its calls down.
pub mod State
pub mod Calls
pub mod Conditions
