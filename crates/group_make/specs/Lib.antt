pub mod Formulas
pub mod Refusal
pub mod Laws
