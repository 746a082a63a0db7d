-- The laws of a cocycle as plain sentences, from exponents that break none.
use Rattle.cochain.proofs.Names.{◌≡◌, ℕ, ◌+◌, ◌*◌, ◌%◌, ◌<◌, true, ◌||◌, nat_eq, None, refl, eqb-true, eq-eqb, or_none, first_none-at, or-true, passes, asked, identity_of, NotNormalised, NotCocycle}
use Rattle.cochain.specs.Cochain.{Cochain, value, has_identity, is_normal_at, normal_fault, left_side, right_side, is_closed_at, closure_fault, cocycle_fault, IsCochain, IsCocycle}
use Rattle.cochain.proofs.Cube.{cube_below}

-- no law is broken exactly where neither is
pub record Laws (w : Cochain) : Type 0 where
  pub normal : normal_fault w ≡ None
  pub closed : closure_fault w ≡ None

pub laws_of : (w : Cochain) → cocycle_fault w ≡ None → Laws w
unfolding cocycle_fault
laws_of w lawful =
    let both = or_none (normal_fault w) (closure_fault w) lawful in
    record { normal = both.0; closed = both.1 }

-- an exponent is below the number of roots
pub value_below : (w : Cochain) → IsCochain w → (g h k : ℕ) → g < w.group.order → h < w.group.order → k < w.group.order → value w g h k < w.roots
value_below w W g h k p q r = W.below ((g * w.group.order + h) * w.group.order + k) (rw W.cube (cube_below w.group.order g h k p q r))

-- an exponent with the identity among its arguments is 0
normal_at : (w : Cochain) → IsCocycle w → (g h k : ℕ) → g < w.group.order → h < w.group.order → k < w.group.order → has_identity w g h k ≡ true → value w g h k ≡ 0
normal_at w W g h k p q r one =
    let here : is_normal_at w g h k ≡ true =
    passes (is_normal_at w g h k) (NotNormalised g h k) (first_none-at w.group.order k _ (first_none-at w.group.order h _ (first_none-at w.group.order g _ (laws_of w W.lawful).normal p) q) r) in
    eqb-true _ _ (asked (has_identity w g h k) (nat_eq (value w g h k) 0) here one)

module _ (w : Cochain) (W : IsCocycle w) where
  abbrev n : ℕ
  n = w.group.order

  abbrev e : ℕ
  e = identity_of w.group

  -- where each argument in turn is the identity
  pub first_one : (h k : ℕ) → h < n → k < n → e < n → value w e h k ≡ 0
  first_one h k q r e_below = normal_at w W e h k e_below q r (rw (eq-eqb e e refl))

  pub second_one : (g k : ℕ) → g < n → k < n → e < n → value w g e k ≡ 0
  second_one g k p r e_below = normal_at w W g e k p e_below r (rw (eq-eqb e e refl, or-true (nat_eq g e)))

  pub third_one : (g h : ℕ) → g < n → h < n → e < n → value w g h e ≡ 0
  third_one g h p q e_below = normal_at w W g h e p q e_below (rw (eq-eqb e e refl, or-true (nat_eq g e || nat_eq h e)))

  -- the cocycle law
  pub closed_at : (g h k l : ℕ) → g < n → h < n → k < n → l < n → left_side w g h k l % w.roots ≡ right_side w g h k l % w.roots
  closed_at g h k l p q r s =
      let row = first_none-at n h _ (first_none-at n g _ (laws_of w W.lawful).closed p) q in
      eqb-true _ _ (passes (is_closed_at w g h k l) (NotCocycle g h k l) (first_none-at n l _ (first_none-at n k _ row r) s))
