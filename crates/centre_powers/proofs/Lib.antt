pub mod ConvolutionRing
pub mod FixedPowers
pub mod Names
