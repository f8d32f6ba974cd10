-- What the contracts of `desk` cite, and what a list of calls leaves.
pub mod Calls
pub mod Runs
pub mod Cases
pub mod Spelling
pub mod Rounds
pub mod Groups
pub mod Reached
