-- What the bytes of a marking file spell.
pub mod Text
pub mod Keys
