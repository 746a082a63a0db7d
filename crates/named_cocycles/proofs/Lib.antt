pub mod Gauges
pub mod Generator
pub mod Named
pub mod Names
pub mod Signs
