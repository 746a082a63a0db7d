mod AllAts
mod Terms
mod Smalls
mod KeptFits
mod KeptValues
mod KeptRows
mod KeptSums
mod RowsMade
pub mod Entries
pub mod Names
mod MatrixLaws
