pub mod Reordering
pub mod SimpleRows
