pub mod FusionSums
pub mod IndicatorSums
pub mod Names
pub mod NoOverflows
pub mod Numbers
pub mod PairValues
