-- The centraliser of an element as a group on places. An element is a number of the whole group, a place the number of an element in
-- the ascending list of the centraliser.
use Rattle.slant.proofs.Names.{◌≡◌, ℕ, ◌<◌, nat_eq, length, get_or, sym, ap, ◌∙◌, arith, eqb-true, eq-eqb, IsGroupBelow, Table, product, IsGroup, passing_below-ascending, centraliser_exactly, place_in, product_place, table_of, identity_is_unit, is_group, length-by_pairs, pair_at, Group, Below, below_equal, conj, element, element_group, same_value, neither_below}
use Rattle.std.specs.Prelude.{unwrap_or}
use Rattle.std.proofs.lemmas.List.Elements.{Contains-get_or}
use Rattle.std.proofs.lemmas.Grind.{get_or_default_zero}
use Rattle.algebra.proofs.GroupLaws.{group_rules, inv_unique, conj_op, conj_one, conj_self, conj_inv, conj_of_commuting, commuting_of_conj}
use Rattle.classes.specs.Conjugacy.{centraliser_of}
use Rattle.classes.proofs.Carrying.{carry}
use Rattle.scan.proofs.Searches.{IsLeastPassing, least_passing, least_passing_found}

-- what commutes with a is closed under products and inverses

pub op_commutes : {G : Type 0} (P : Group G) (a x y : G) → conj P a x ≡ a → conj P a y ≡ a → conj P a (P.op x y) ≡ a
op_commutes P a x y h k = simp (conj_op, h, k)

pub inv_commutes : {G : Type 0} (P : Group G) (a x : G) → conj P a x ≡ a → conj P a (P.inv x) ≡ a
inv_commutes P a x h = ap (λ z. conj P z (P.inv x)) (sym h) ∙ conj_inv P a x

-- what an injective map makes a group of
module _ {G S : Type 0} (P : Group G) (to : S → G) (injective : (x y : S) → to x ≡ to y → x ≡ y) (op : S → S → S) (inv : S → S) (one : S)
    (to_op : (x y : S) → to (op x y) ≡ P.op (to x) (to y)) (to_inv : (x : S) → to (inv x) ≡ P.inv (to x)) (to_one : to one ≡ P.one) where
  abbrev pulled_back : Group S
  pulled_back = record {
    op = op;
    inv = inv;
    one = one;
    op_assoc = λ x y z. injective _ _ (simp (to_op, group_rules, P));
    one_op = λ x. injective _ _ (simp (to_op, to_one, group_rules, P));
    op_one = λ x. injective _ _ (simp (to_op, to_one, group_rules, P));
    inv_op = λ x. injective _ _ (simp (to_op, to_inv, to_one, group_rules, P));
    op_inv = λ x. injective _ _ (simp (to_op, to_inv, to_one, group_rules, P));
  }

-- a table whose products are those of a group on its elements
module _ (t : Table) (Q : Group (Below t.order)) (is : (p r : Below t.order) → product t p.value r.value ≡ (Q.op p r).value) where
  pub products_group : IsGroupBelow t.order (product t) Q.one.value
  products_group = record {
    unit_below = Q.one.below;
    closed = λ p r p_below r_below. rw (is (element p p_below) (element r r_below)) (Q.op (element p p_below) (element r r_below)).below;
    unit_left = λ p below. is Q.one (element p below) ∙ same_value (Q.one_op (element p below));
    unit_right = λ p below. is (element p below) Q.one ∙ same_value (Q.op_one (element p below));
    right_inverse = λ p below.
        let i = Q.inv (element p below) in
        (i.value, i.below, is (element p below) i ∙ same_value (Q.op_inv (element p below)));
    associative = λ p q r p_below q_below r_below.
        let x = element p p_below in
        let y = element q q_below in
        let z = element r r_below in
        ap (λ k. product t k r) (is x y) ∙ is (Q.op x y) z ∙ same_value (Q.op_assoc x y z) ∙ sym (ap (product t p) (is y z) ∙ is x (Q.op y z));
  }

module _ (t : Table) (T : IsGroup t) (a : Below t.order) where
  abbrev P : Group (Below t.order)
  P = element_group t T

  abbrev pub Place : Type 0
  Place = Below (length (centraliser_of t a.value))

  pub listed : (p : Place)
      → (get_or (centraliser_of t a.value) p.value 0 < t.order)
      × (product t (get_or (centraliser_of t a.value) p.value 0) a.value ≡ product t a.value (get_or (centraliser_of t a.value) p.value 0))
  listed p = (centraliser_exactly t T a.value _).0 (Contains-get_or (centraliser_of t a.value) p.value 0 p.below)

  -- the element at a place, which commutes with a
  abbrev pub element_at : Place → Below t.order
  element_at p = element (get_or (centraliser_of t a.value) p.value 0) (listed p).0

  pub commutes : (p : Place) → conj P a (element_at p) ≡ a
  commutes p = conj_of_commuting P a (element_at p) (below_equal _ _ (sym (listed p).1))

  pub ascending : (p r : ℕ) → p < r → r < length (centraliser_of t a.value) → get_or (centraliser_of t a.value) p 0 < get_or (centraliser_of t a.value) r 0
  unfolding centraliser_of
  ascending = passing_below-ascending t.order (λ x. nat_eq (product t x a.value) (product t a.value x))

  -- one element stands at one place
  pub injective : (p r : Place) → element_at p ≡ element_at r → p ≡ r
  injective p r e =
      let same = same_value e in
      below_equal p r
      (neither_below p.value r.value
      (λ less. let up = ascending p.value r.value less r.below in omega (arith, same))
      (λ less. let up = ascending r.value p.value less p.below in omega (arith, same)))

  pub placed : (x : Below t.order) → conj P a x ≡ a
      → IsLeastPassing (length (centraliser_of t a.value)) (λ p. nat_eq (get_or (centraliser_of t a.value) p 0) x.value) (unwrap_or (place_in (centraliser_of t a.value) x.value) 0)
  placed x h =
      let (k, below, stands) = (centraliser_exactly t T a.value x.value).1 (x.below, sym (same_value (commuting_of_conj P a x h))) in
      least_passing _ _ _ (least_passing_found _ _ k below (eq-eqb _ _ (sym (get_or_default_zero (centraliser_of t a.value) k x.value below) ∙ stands)))

  -- the place of an element that commutes with a
  abbrev place : (x : Below t.order) → conj P a x ≡ a → Place
  place x h = element (unwrap_or (place_in (centraliser_of t a.value) x.value) 0) (placed x h).below

  pub at_place : (x : Below t.order) (h : conj P a x ≡ a) → element_at (place x h) ≡ x
  at_place x h = below_equal _ _ (eqb-true _ _ (placed x h).passes)

  -- a stands at a place of its own
  pub own : (p : Place) × ((element_at p).value ≡ a.value)
  own = (place a (conj_self P a), same_value (at_place a (conj_self P a)))

  pub closed : (p r : Place) → conj P a (P.op (element_at p) (element_at r)) ≡ a
  closed p r = op_commutes P a (element_at p) (element_at r) (commutes p) (commutes r)

  abbrev carried_group : Group Place
  carried_group =
      pulled_back P element_at injective
      (λ p r. place (P.op (element_at p) (element_at r)) (closed p r))
      (λ p. place (P.inv (element_at p)) (inv_commutes P a (element_at p) (commutes p)))
      (place P.one (conj_one P a))
      (λ p r. at_place _ (closed p r)) (λ p. at_place _ (inv_commutes P a (element_at p) (commutes p))) (at_place _ (conj_one P a))

  abbrev pub table : Table
  table = table_of t (centraliser_of t a.value)

  pub product_is : (p r : Place) → product table p.value r.value ≡ (carried_group.op p r).value
  product_is p r = pair_at _ (product_place t (centraliser_of t a.value)) p.value r.value p.below r.below

  -- the places are a group
  pub places_lawful : IsGroup table
  places_lawful = is_group table _ (products_group table carried_group product_is) (length-by_pairs _ (product_place t (centraliser_of t a.value)))

  abbrev pub place_group : Group Place
  place_group = element_group table places_lawful

  -- products, the identity, inverses and conjugates at places are those at elements

  pub at_product : (p r : Place) → element_at (place_group.op p r) ≡ P.op (element_at p) (element_at r)
  at_product p r = ap element_at (below_equal _ _ (product_is p r)) ∙ at_place _ (closed p r)

  pub at_identity : element_at place_group.one ≡ P.one
  at_identity = ap element_at (below_equal _ _ (identity_is_unit table _ (products_group table carried_group product_is))) ∙ at_place _ (conj_one P a)

  pub at_inverse : (p : Place) → element_at (place_group.inv p) ≡ P.inv (element_at p)
  at_inverse p = inv_unique P (element_at p) (element_at (place_group.inv p)) (sym (at_product p (place_group.inv p)) ∙ ap element_at (place_group.op_inv p) ∙ at_identity)

  pub at_conjugate : (c p : Place) → element_at (carry place_group c p) ≡ carry P (element_at c) (element_at p)
  unfolding carry
  at_conjugate c p =
      at_product (place_group.op c p) (place_group.inv c) ∙ ap (λ x. P.op x (element_at (place_group.inv c))) (at_product c p)
      ∙ ap (P.op (P.op (element_at c) (element_at p))) (at_inverse c)
