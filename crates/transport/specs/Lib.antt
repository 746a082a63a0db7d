pub mod Simples
pub mod FullCharacters
pub mod SSums
pub mod Laws
pub mod Kept
pub mod Fusion
pub mod Matrices
pub mod Headline
