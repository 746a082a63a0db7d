pub mod Names
pub mod Cube
pub mod Difference
pub mod Sentences
pub mod Formula
pub mod Lawful
pub mod Gauged
pub mod ZeroRows
