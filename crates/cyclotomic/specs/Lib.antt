pub mod Polynomial
pub mod Division
pub mod Cyclotomic
pub mod Ring
pub mod Conductors
pub mod Fit
pub mod Laws
pub mod CyclotomicRing
