-- The names of libraries that the proofs cite.
pub use Rattle.classes.proofs.Conjugacy.{centraliser_exactly}
pub use Rattle.cochain.specs.Cochain.{Cochain, IsCocycle, value}
pub use Rattle.group_table.proofs.Lawful.{identity_is_unit, is_group}
pub use Rattle.group_table.proofs.Numbers.{length-passing_below, passing_below-ascending}
pub use Rattle.group_table.proofs.Sentences.{identity_below}
pub use Rattle.group_table.proofs.Square.{column_below, length-by_pairs, listed_at, pair_at, row_below}
pub use Rattle.group_table.specs.Group.{IsGroup, IsSmall, Table, product}
pub use Rattle.orders.specs.Group.{IsGroupBelow}
pub use Rattle.slant.specs.Twists.{place_in, product_place, table_of}
pub use Rattle.std.proofs.Common.{List, ap, arith, eq-eqb, eqb-true, get_or, length, nat_eq, refl, sym, ℕ, ◌%◌, ◌*◌, ◌+◌, ◌-◌, ◌/◌, ◌<◌, ◌∙◌, ◌≡◌, ◌≤◌}
pub use Rattle.algebra.specs.Below.{Below, below_equal}
pub use Rattle.algebra.specs.Groups.{Group}
unfoldable pub use Rattle.algebra.specs.Groups.{conj}
pub use Rattle.classes.proofs.Carrying.{element, element_group, neither_below, same_value}
unfoldable pub use Rattle.classes.specs.Conjugacy.{conjugate}
unfoldable pub use Rattle.phases.specs.Phases.{theta as slant_phase, gamma as coproduct_phase, transport_phase as carrying_phase, kappa as conjugation_phase}
unfoldable pub use Rattle.slant.specs.Phases.{gamma, kappa, theta, transport_phase}
