pub mod Lawful
pub mod Square
pub mod Numbers
pub mod Sentences
