-- What a list of calls leaves, and what a run of it is.
pub mod Lists
