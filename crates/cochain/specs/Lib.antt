pub mod Cochain
pub mod Refusal
pub mod Gauge
pub mod ZeroRows
pub mod Laws
