pub mod Conjugacy
pub mod Sweep
pub mod Kept
pub mod Laws
