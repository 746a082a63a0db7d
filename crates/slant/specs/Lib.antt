pub mod Phases
pub mod Laws
pub mod Twists
pub mod TwistLaws
