-- The laws of a set of literals, over a list of words of any length.
pub mod Bit
pub mod Words
pub mod Names
pub mod Clashes
pub mod Ones
pub mod Room
pub mod Made
pub mod Onward
