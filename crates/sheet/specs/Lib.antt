-- What a proof sheet is, when it is accepted, and its flat form.
pub mod Sheet
pub mod Flat
pub mod Numbers
pub mod Turns
pub mod Answers
