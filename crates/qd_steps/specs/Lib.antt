pub mod Matched
pub mod Tables
pub mod ByModulus
pub mod ClassTwists
pub mod Refused
pub mod Laws
