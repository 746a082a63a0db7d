pub mod Names
pub mod Annihilators
pub mod CentralPolynomials
pub mod ClassSums
