pub mod CharacterLists
pub mod Laws
