-- Names of the standard library, of the crates below and of the definitions of this crate, for its proofs.
pub use Rattle.centre_algebra.specs.CentralCharacters.{IsBefore, IsCharacterList}
pub use Rattle.splitting_theory.specs.Lists.{Each, Pairwise}
pub use Rattle.std.proofs.Common.{Bool, Contains, List, [], ap, arith, cond, eq-eqb, eqb-true, false, get_or, inl, inr, length, map, refl, subst, suc, sym, true, zero, ℕ, ◌++◌, ◌<◌, ◌==◌, ◌∙◌, ◌∷◌, ◌≡◌, ◌⊎◌}
pub use Rattle.std.specs.Prelude.{filter, ◌&&◌}
pub use mathlib.Core.Path.{ap₂}
