pub mod Characters
pub mod Lists
pub mod Names
