-- The cocycles that have names are normalised 3-cocycles.
use Rattle.named_cocycles.proofs.Names.{◌≡◌, ℕ, ◌*◌, ◌%◌, ◌<◌, ◌≤◌, Bool, true, false, ◌&&◌, nat_le, cond, length, None, Some, refl, ◌∙◌, arith, lit≤, mod-lt, leb-true, and_true, or_none, Table, IsGroup, IsSmall, product_group, dihedral_group, cyclic_group, table_group, cyclic_below, dihedral_below, dicyclic_below, product_below, semidirect_below, cochain_of, exponents_by, cocycle_fault, IsRoots, IsCocycle, passes, trivial_cocycle, roots_of, step_of, type_one_value, type_one_cocycle, type_two_value, type_two_cocycle, type_three_value, type_three_cocycle, divisor_of_three, Factors, Cyclic, Product, TypeTwo, TypeThree, Dihedral, Dicyclic, Semidirect, reflections_value, reflections_cocycle, dihedral_cocycle, made_cocycle, maker_fault}
use Rattle.std.proofs.lemmas.List.{get_or-map, length-map}
use Rattle.group_make.specs.Refusal.{size_fault, action_fault}
use Rattle.group_make.specs.declared.refusal.MakeRefusal.TheVariants.{Size}
use Rattle.group_make.proofs.Bounds.{small_factors, acts_once}
use Rattle.cochain.proofs.Lawful.{is_cocycle}
use Rattle.cocycle_make.proofs.Divisor.{divisor, lowest_terms}
use Rattle.cocycle_make.proofs.Lawful.{trivial_lawful, type_one_lawful, type_two_lawful, type_three_lawful, three_positive}
use Rattle.named_cocycles.specs.declared.maker.Maker.{Maker}
use Rattle.named_cocycles.proofs.Signs.{reflections_lawful}

-- an order that is not refused
pub is_small : (order : ℕ) → size_fault order ≡ None → IsSmall order
is_small order accepted =
    let both = and_true _ _ (passes (nat_le 1 order && nat_le order 60) (Size order) accepted) in
    record { from_one = leb-true 1 order both.0; to_sixty = leb-true order 60 both.1 }

pub plain : (t : Table) (roots : ℕ) → IsGroup t → IsSmall t.order → IsRoots roots → IsCocycle (trivial_cocycle t roots)
plain t roots T small few = is_cocycle t T roots (λ x y z. 0) small few (trivial_lawful t roots T few.from_one)

one_root : IsRoots 1
one_root = record { from_one = lit≤ tt; to_most = lit≤ tt }

-- a class in lowest terms needs no more roots than it has
few_roots : (n p : ℕ) → 0 < n → n ≤ 60 → IsRoots (roots_of n p)
few_roots n p positive few =
    let lowest = lowest_terms n p positive in
    record { from_one = lowest.from_one; to_most = omega (arith, lowest.to_most) }

factors : (a b c : ℕ) → IsSmall (a * b * c) → Factors a b c
factors a b c small =
    let outer = small_factors (a * b) c small.from_one small.to_sixty in
    let inner = small_factors a b outer.left_positive outer.left_few in
    record {
      a_positive = inner.left_positive;
      b_positive = inner.right_positive;
      c_positive = outer.right_positive;
      a_few = inner.left_few;
      b_few = inner.right_few;
      c_few = outer.right_few;
    }

cyclic : (n p : ℕ) → IsSmall n → IsCocycle (type_one_cocycle n p)
cyclic n p small =
    let positive : 0 < n = omega (arith, small.from_one) in
    is_cocycle (cyclic_group n) (table_group n 0 _ (cyclic_below n positive)) (roots_of n p) (type_one_value n (step_of n p)) small
    (few_roots n p positive small.to_sixty) (type_one_lawful n p positive)

product_is_group : (a b c : ℕ) → Factors a b c → IsGroup (product_group a b c)
product_is_group a b c F = table_group _ _ _ (product_below a b c F.a_positive F.b_positive F.c_positive)

type_two : (a b p : ℕ) → IsSmall (1 * a * b) → IsCocycle (type_two_cocycle a b p)
type_two a b p small =
    let F = factors 1 a b small in
    is_cocycle (product_group 1 a b) (product_is_group 1 a b F) (roots_of a p) (type_two_value b (step_of a p)) small
    (few_roots a p F.b_positive F.b_few) (type_two_lawful a b p F.b_positive F.c_positive)

type_three : (a b c p : ℕ) → IsSmall (a * b * c) → IsCocycle (type_three_cocycle a b c p)
type_three a b c p small =
    let F = factors a b c small in
    let t = divisor_of_three a b c in
    let two = divisor a b F.a_positive in
    let three = divisor _ c two.positive in
    is_cocycle (product_group a b c) (product_is_group a b c F) (roots_of t p) (type_three_value b c (step_of t p)) small
    (few_roots t p (three_positive a b c F.a_positive) (omega (arith, F.a_few, two.most, three.most)))
    (type_three_lawful a b c p F.a_positive F.b_positive F.c_positive)

dihedral_is_group : (n : ℕ) → 0 < n → IsGroup (dihedral_group n)
dihedral_is_group n positive = table_group _ _ _ (dihedral_below n positive)

pub reflections : (n : ℕ) → IsSmall (2 * n) → IsCocycle (reflections_cocycle n)
reflections n small =
    let positive : 0 < n = omega (arith, small.from_one) in
    is_cocycle (dihedral_group n) (dihedral_is_group n positive) 2 (reflections_value n) small (record { from_one = lit≤ tt; to_most = lit≤ tt }) (reflections_lawful n positive)

dihedral : (n : ℕ) (twisted : Bool) → IsSmall (2 * n) → IsCocycle (dihedral_cocycle n twisted)
dihedral n false small = plain (dihedral_group n) 1 (dihedral_is_group n (omega (arith, small.from_one))) small one_root
dihedral n true small = reflections n small

pub made_is_cocycle : (maker : Maker) → maker_fault maker ≡ None → IsCocycle (made_cocycle maker)
made_is_cocycle (Cyclic n p) none = cyclic n p (is_small n none)
made_is_cocycle (Product a b c) none =
    let small = is_small (a * b * c) none in
    plain (product_group a b c) 1 (product_is_group a b c (factors a b c small)) small one_root
made_is_cocycle (TypeTwo a b p) none =
    let small = is_small (a * b) none in
    type_two a b p (record { from_one = omega (arith, small.from_one); to_sixty = omega (arith, small.to_sixty) })
made_is_cocycle (TypeThree a b c p) none = type_three a b c p (is_small (a * b * c) none)
made_is_cocycle (Dihedral n twisted) none = dihedral n twisted (is_small (2 * n) none)
made_is_cocycle (Dicyclic n) none =
    let small = is_small (4 * n) none in
    plain _ 1 (table_group _ _ _ (dicyclic_below n (omega (arith, small.from_one)))) small one_root
made_is_cocycle (Semidirect n m r) none =
    let both = or_none (size_fault (n * m)) (action_fault n m r) none in
    let small = is_small (n * m) both.0 in
    let two = small_factors n m small.from_one small.to_sixty in
    plain _ 1 (table_group _ _ _ (semidirect_below n m r two.left_positive two.right_positive (acts_once n m r both.1))) small one_root
