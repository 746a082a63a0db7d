pub mod Names
pub mod ServedClasses
pub mod TwistLaws
