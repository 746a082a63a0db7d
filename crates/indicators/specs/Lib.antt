pub mod Indicators
