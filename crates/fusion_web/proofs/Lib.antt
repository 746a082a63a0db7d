mod RingLaws
mod NodeLaws
mod EntryLaws
mod WebLaws
mod WalkLaws
mod SumLaws
pub mod Names
