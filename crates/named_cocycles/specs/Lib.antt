pub mod Makers
pub mod Samples
pub mod Laws
