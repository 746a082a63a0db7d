-- Names of the standard library, of the crates below and of the definitions of this crate, for its proofs.
unfoldable pub use Rattle.classes.specs.Conjugacy.{class_of, conjugate, transporter_of}
unfoldable pub use Rattle.cyclotomic.specs.Conductors.{is_conductor}
pub use Rattle.qd_ring.proofs.RootSumLaws.{no_root, one_root, roots_conjugated, roots_fit, roots_fit_together, roots_multiplied, roots_same, roots_size, roots_together, roots_turned, roots_whole}
pub use Rattle.root_tables.specs.RootRows.{AreRootRows, HasRootRows, RootRowsFit, RootRowsMissClauses, RootSimplesFit}
pub use Rattle.scan.proofs.Places.{all_below-all}
pub use Rattle.std.proofs.Common.{Bool, ap, arith, eq-eqb, false, if◌then◌else◌, le_trans, not, refl, subst, suc, sym, true, zero, ℕ, ◌%◌, ◌&&◌, ◌*◌, ◌+◌, ◌/◌, ◌<◌, ◌==◌, ◌^◌, ◌∙◌, ◌≡◌, ◌≢◌, ◌≤◌}
pub use Rattle.std.proofs.Math.Nat.{mul-le-mul}
pub use Rattle.std.proofs.lemmas.Bool.{false≢true, leb-true}
pub use Rattle.std.specs.Prelude.{IfSome, unwrap_or}
pub use Rattle.table_check.specs.Characters.{Characters}
pub use Rattle.table_check.specs.Fitting.{SidesFit, both_fit}
pub use Rattle.table_check.specs.Formed.{Formed, conjugated, given, multiplied, where_so, whole}
unfoldable pub use Rattle.twisted.specs.Regular.{kappa, rank}
pub use Rattle.twisted.specs.Twist.{IsTwist, TwistedSubgroup, element, phase, place_of, size}
pub use mathlib.Core.Path.{ap₂}
