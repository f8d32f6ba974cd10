-- The laws of what names reach: the table of it, the names that reach one with both literals in a set, and the working order.
pub mod Names
pub mod Rows
pub mod Bodies
pub mod Closure
pub mod Reaching
pub mod Waiting
pub mod Placing
pub mod Listing
pub mod Places
