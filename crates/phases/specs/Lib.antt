pub mod ThreeCocycle
pub mod Phases
