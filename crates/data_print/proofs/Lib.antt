pub mod Fronts
pub mod Names
pub mod Ranks
mod ValueTexts
mod Places
mod FusionTexts
