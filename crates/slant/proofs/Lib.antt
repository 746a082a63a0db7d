pub mod Names
pub mod Instances
pub mod Places
pub mod TwistLaws
