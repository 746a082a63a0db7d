pub mod CentralElements
pub mod Names
pub mod RingSums
pub mod SumPowers
