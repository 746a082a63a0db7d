pub mod Bounds
pub mod Extensions
pub mod FormulaGroups
pub mod Names
pub mod Tables
