pub mod CentreRing
pub mod CharacterLists
pub mod Names
pub mod Numbers
