-- The laws of stored bytes, of digits, of the parts of a listing, and of the listing of a lesson.
pub mod Stored
pub mod Digits
pub mod Lines
pub mod Calls
pub mod Standing
