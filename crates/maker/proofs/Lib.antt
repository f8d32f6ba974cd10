-- Why the maker's sheets are accepted, and why it finds one for every claim that is so.
pub mod Stands
pub mod Complete
pub mod Passed
pub mod Loops
pub mod Rounds
pub mod Exists
