pub mod CentralLists
pub mod Elements
pub mod Structures
pub mod Layers
pub mod ClassSums
pub mod Values
