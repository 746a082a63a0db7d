pub mod TwistRows
pub mod Laws
