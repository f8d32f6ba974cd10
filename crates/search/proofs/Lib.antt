-- The laws of the walk.
pub mod Marks
pub mod Codes
pub mod Answers
pub mod Stock
pub mod Visits
pub mod TNodes
pub mod TuNodes
pub mod Searches
pub mod Falls
pub mod Children
pub mod Loops
pub mod Questions
