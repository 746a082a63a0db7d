pub mod Rings
pub mod Traces
pub mod CrossedProducts
pub mod Theorems
