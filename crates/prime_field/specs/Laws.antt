-- Lemmas on the definitions, which the ring of residues and its root stand on, and that proofs above cite.
pub mod Moduli
pub mod WholeNumbers
pub mod Evaluation
pub mod Residues
pub mod Field
