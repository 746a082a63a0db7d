pub mod Cup
pub mod Divisor
pub mod Inflated
pub mod Lawful
pub mod Made
pub mod Names
pub mod Products
