pub mod Sums
pub mod Least
pub mod Powers
pub mod Orders
pub mod Exponents
