pub mod Divisors
pub mod Cocycles
pub mod Refusal
pub mod Laws
