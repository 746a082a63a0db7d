mod FormedLaws
pub mod Names
