-- The laws of a set of names, over its words.
pub mod Names
