pub mod Entries
pub mod Rings
pub mod Links
pub mod Walks
pub mod Laws
