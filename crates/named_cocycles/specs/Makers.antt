-- The cocycles that have names: a group by a formula, with a cocycle by a formula.
use Rattle.std.specs.Prelude.{ℕ, ◌*◌, ◌/◌, Bool, true, false, Option}
use Rattle.group_make.specs.Formulas.{product_group, dihedral_group, dicyclic_group, semidirect_group}
use Rattle.group_make.specs.Refusal.{size_fault, semidirect_fault}
use Rattle.group_make.specs.declared.refusal.MakeRefusal.{MakeRefusal}
use Rattle.cochain.specs.Cochain.{Cochain, cochain_of, exponents_by}
use Rattle.cocycle_make.specs.Cocycles.{trivial_cocycle, type_one_cocycle, type_two_cocycle, type_three_cocycle}
use Rattle.named_cocycles.specs.declared.maker.Maker.{Maker}
use Rattle.named_cocycles.specs.declared.maker.Maker.TheVariants.{Cyclic, Product, TypeTwo, TypeThree, Dihedral, Dicyclic, Semidirect}

-- In the dihedral group of order 2 n, the element i + n j is a reflection where j is 1. This is 1 exactly where all three elements
-- are reflections.
abbrev pub reflections_value : ℕ → ℕ → ℕ → ℕ → ℕ
reflections_value n x y z = x / n * (y / n * (z / n))

-- -1 exactly where all three elements are reflections
abbrev pub reflections_cocycle : ℕ → Cochain
reflections_cocycle n = cochain_of (dihedral_group n) 2 (exponents_by (2 * n) (reflections_value n))

abbrev pub dihedral_cocycle : ℕ → Bool → Cochain
dihedral_cocycle n false = trivial_cocycle (dihedral_group n) 1
dihedral_cocycle n true = reflections_cocycle n

-- the cocycle that a maker names
abbrev pub made_cocycle : Maker → Cochain
made_cocycle (Cyclic n p) = type_one_cocycle n p
made_cocycle (Product a b c) = trivial_cocycle (product_group a b c) 1
made_cocycle (TypeTwo a b p) = type_two_cocycle a b p
made_cocycle (TypeThree a b c p) = type_three_cocycle a b c p
made_cocycle (Dihedral n twisted) = dihedral_cocycle n twisted
made_cocycle (Dicyclic n) = trivial_cocycle (dicyclic_group n) 1
made_cocycle (Semidirect n m r) = trivial_cocycle (semidirect_group n m r) 1

-- what refuses the numbers of a maker: the order of its group, and then its action
abbrev pub maker_fault : Maker → Option MakeRefusal
maker_fault (Cyclic n p) = size_fault n
maker_fault (Product a b c) = size_fault (a * b * c)
maker_fault (TypeTwo a b p) = size_fault (a * b)
maker_fault (TypeThree a b c p) = size_fault (a * b * c)
maker_fault (Dihedral n twisted) = size_fault (2 * n)
maker_fault (Dicyclic n) = size_fault (4 * n)
maker_fault (Semidirect n m r) = semidirect_fault n m r
