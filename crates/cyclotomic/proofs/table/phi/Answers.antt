-- The table of the code is the listed one.
use Rattle.cyclotomic.proofs.Names.{ℕ, ap, conductors, phi_of}
use Rattle.std.specs.Option.{option_map_or}
use Rattle.cyclotomic.proofs.table.phi.Goals as goal

pub returns-in-Some : goal.returns-in-Some
unfolding phi_of conductors
returns-in-Some c = ap (λ (found : _). option_map_or (λ (entry : ℕ × ℕ). entry.1) found 0) c.in-Some.ensures

pub returns-in-None : goal.returns-in-None
unfolding phi_of conductors
returns-in-None c = ap (λ (found : _). option_map_or (λ (entry : ℕ × ℕ). entry.1) found 0) c.in-None.ensures
