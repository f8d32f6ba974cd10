-- What every call owes, and what follows for every list of calls.
pub mod Lists
