pub mod Sums
pub mod Tables
pub mod Ratios
pub mod Candidate
pub mod Faults
pub mod Laws
