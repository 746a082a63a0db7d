pub mod Lists
pub mod Splitting
pub mod Algebras
pub mod Theorems
