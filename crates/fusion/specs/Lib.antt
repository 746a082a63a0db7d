pub mod Numbers
pub mod Sites
pub mod Refusal
pub mod Reads
pub mod Laws
pub mod Kept
pub mod Fronts
