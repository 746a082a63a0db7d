pub mod CentralPowers
pub mod Instances
