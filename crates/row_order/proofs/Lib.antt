pub mod ClassSimples
pub mod Names
pub mod NumbersInOrder
pub mod OrderKept
pub mod ReorderedRows
pub mod SameSimples
pub mod SimpleRowLaws
pub mod TablesInOrder
