pub mod Decimals
pub mod Digits
pub mod Lexemes
pub mod Names
pub mod Texts
