pub mod Names
pub mod Carrying
pub mod Orbits
pub mod Conjugacy
pub mod Lookups
pub mod Rows
pub mod Counting
