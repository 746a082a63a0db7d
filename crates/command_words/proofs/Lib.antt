pub mod Names
pub mod Parsed
pub mod SomeWords
pub mod Walk
