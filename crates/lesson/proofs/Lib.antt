-- The laws of the calls on a lesson.
pub mod Order
pub mod Refusals
pub mod WithBook
pub mod Meaning
pub mod Marks
pub mod Replies
pub mod Sound
pub mod Standing
pub mod Rows
pub mod ChangeLaws
pub mod Exists
pub mod Listings
pub mod Sheets
