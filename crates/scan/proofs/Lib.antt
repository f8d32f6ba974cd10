-- Laws of the text's definitions.
pub mod Places
pub mod Bytes
pub mod Names
pub mod Keys
pub mod Words
pub mod Forms
