pub mod Group
pub mod Order
pub mod Laws
pub mod Instances
