pub mod Numerators
pub mod Conjugates
pub mod Dots
pub mod SMatrices
pub mod Refusal
pub mod ModularMatrices
