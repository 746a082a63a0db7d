pub mod FormedRoots
pub mod MissRoots
pub mod Names
pub mod SimpleRoots
pub mod TableRoots
