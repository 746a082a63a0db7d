pub mod Twist
pub mod Regular
pub mod Algebra
pub mod Refusal
pub mod Laws
pub mod Instances
