pub mod FusionFit
pub mod IndicatorLists
pub mod IndicatorsFit
pub mod IndicatorValues
pub mod Overflows
