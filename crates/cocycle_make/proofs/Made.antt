-- From the parts that the code makes to the cocycle of a formula.
use Rattle.cocycle_make.proofs.Names.{◌≡◌, ℕ, ◌*◌, ◌<◌, ◌≤◌, None, List, Table, IsSmall, cyclic_group, product_group, cochain_of, exponents_by, cocycle_fault}
use Rattle.group_make.proofs.Bounds.{small_factors}

pub made : (t t' : Table) (roots roots' order : ℕ) (exponents : List ℕ) (at at' : ℕ → ℕ → ℕ → ℕ)
    → t ≡ t' → roots ≡ roots' → order ≡ t.order → at ≡ at' → exponents ≡ exponents_by order at
    → cocycle_fault (cochain_of t' roots' (exponents_by t'.order at')) ≡ None → cocycle_fault (cochain_of t roots exponents) ≡ None
made t t' roots roots' order exponents at at' same_group same_roots same_order same_values listed none =
    rw (listed, same_order, same_values, same_group, same_roots) none

-- the order of a cyclic group that was made
pub made_order : (n : ℕ) (t : Table) → t ≡ cyclic_group n → IsSmall t.order → IsSmall n
made_order n t same small = rw same at small

-- the orders of the factors of a product that was made
pub record Factors (a b c : ℕ) : Type 0 where
  pub a_positive : 0 < a
  pub b_positive : 0 < b
  pub c_positive : 0 < c
  pub a_few : a ≤ 60
  pub b_few : b ≤ 60
  pub c_few : c ≤ 60

pub made_factors : (a b c : ℕ) (t : Table) → t ≡ product_group a b c → IsSmall t.order → Factors a b c
made_factors a b c t same small =
    let order : IsSmall (a * b * c) = rw same at small in
    let outer = small_factors (a * b) c order.from_one order.to_sixty in
    let inner = small_factors a b outer.left_positive outer.left_few in
    record {
      a_positive = inner.left_positive;
      b_positive = inner.right_positive;
      c_positive = outer.right_positive;
      a_few = inner.left_few;
      b_few = inner.right_few;
      c_few = outer.right_few;
    }
