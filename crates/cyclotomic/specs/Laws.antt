-- Lemmas that the ring's own record of laws stands on, and that proofs above cite.
pub mod Integers
pub mod Polynomials
pub mod Remainders
pub mod Action
pub mod Values
