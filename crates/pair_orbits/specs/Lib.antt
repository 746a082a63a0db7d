pub mod PairOrbits
pub mod Listing
pub mod Laws
pub mod FormedSums
