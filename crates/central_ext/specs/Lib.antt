pub mod Extension
pub mod ExtensionClasses
pub mod PowersOfUnits
pub mod Laws
pub mod Instances
