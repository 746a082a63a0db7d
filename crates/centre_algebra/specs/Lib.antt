pub mod CentralCharacters
pub mod Laws
