-- The orthogonality of rows and of full characters.
use Rattle.characters.proofs.Names.{◌≡◌, ℕ, ◌≤◌, Bool, true, refl, sym, ◌∙◌, ap, ap₂, CommRing, IsTorsionFree, pick, multiple, Finite, equals, total, conj, pick_mul, pick_of, pick_off, pick_nought, pick_cong, mul_multiple, multiple_is_mul, conj_op, conj_inv, conj_of_inv, inv_op_op, op_inv_op, total_ext, total_exchange, total_pick, total_reindex, total_constant, equals_of, equals_false, neg_unique, neg_neg, multiple_of_add, multiple_neg, Setting, Classes, commute, slant_root, transport_root, Simples, group_order, centraliser_order, centraliser_product, GoodTable, GoodTables, inner_product, full_character}
use Rattle.characters.proofs.SettingLaws.{commute_true, commute_symmetric, commute_conj, slant_root_bar, transport_root_bar, cancel_pair, one_commutes, pick_both, pick_where_equal, by_equality, total_none, fixed_test, carried_test}
use Rattle.characters.proofs.PairLaws.{pair_sum_is, inner_product_is}
use Rattle.characters.proofs.AlgebraLaws.{centraliser_order_is, centraliser_product_is}
use Rattle.characters.proofs.CharacterLaws.{product_off, transporter_independent}
use Rattle.characters.proofs.SLaws.{degree_bar}

-- equal multiples by a whole number from 1 on are those of equal elements
pub cancel_multiple : {A : Type 0} (R : CommRing A) → IsTorsionFree R → (n : ℕ) (x y : A) → 1 ≤ n → multiple R n x ≡ multiple R n y → x ≡ y
cancel_multiple R free n x y from_one e =
    let none : R.add x (R.neg y) ≡ R.nought =
    free.cancel n (R.add x (R.neg y)) from_one
    (multiple_of_add R n x (R.neg y) ∙ ap₂ R.add e (multiple_neg R n y) ∙ R.add_neg (multiple R n y)) in
    sym (neg_neg R x) ∙ ap R.neg (sym (neg_unique R x (R.neg y) none)) ∙ neg_neg R y

-- a product with a whole number
pub of_whole : {A : Type 0} (R : CommRing A) (n : ℕ) (x : A) → R.mul (multiple R n R.one) x ≡ multiple R n x
of_whole R n x = sym (multiple_is_mul R n x)

-- a factor that is picked may be used under the test
pub pick_factor : {A : Type 0} (R : CommRing A) (b : Bool) (u v w : A) → (b ≡ true → v ≡ w) → R.mul (pick R b u) v ≡ R.mul (pick R b u) w
pick_factor R b u v w h = pick_mul R b u v ∙ pick_cong R b _ _ (λ e. ap (R.mul u) (h e)) ∙ sym (pick_mul R b u w)

module _ {A G : Type 0} (T : Setting A G) where
  pub group_order_is : group_order T ≡ total T.ring T.finite (λ g. T.ring.one)
  unfolding group_order
  group_order_is = refl

  -- the order of the group is a whole number
  pub group_order_multiple : group_order T ≡ multiple T.ring T.finite.size T.ring.one
  group_order_multiple = group_order_is ∙ total_constant T.ring T.finite T.ring.one

-- the class equation
module _ {A G : Type 0} (T : Setting A G) (C : Classes T.group) where
  pub representative_of_itself : (g : G) → C.representative (C.representative g) ≡ C.representative g
  representative_of_itself g = ap C.representative (sym (C.carries g)) ∙ C.constant g (C.carrier g)

  -- how many carry g to a
  carriers_count : (a g : G) → C.representative a ≡ a →
      total T.ring T.finite (λ k. pick T.ring (equals T.finite (conj T.group g k) a) T.ring.one) ≡ pick T.ring (equals T.finite (C.representative g) a) (centraliser_order T a)
  carriers_count a g own =
      pick_where_equal T.ring T.finite (C.representative g) a _ (centraliser_order T a)
      (λ e.
      let l : G = C.carrier g in
      sym (total_reindex T.ring T.finite T.finite (T.group.op l) (T.group.op (T.group.inv l)) (inv_op_op T.group l) (op_inv_op T.group l) (λ k. pick T.ring (equals T.finite (conj T.group g k) a) T.ring.one))
      ∙ total_ext T.ring T.finite _ _
      (λ c. ap (λ b. pick T.ring b T.ring.one)
      (ap (λ z. equals T.finite z a) (conj_op T.group g l c ∙ ap (λ z. conj T.group z c) (C.carries g ∙ e)) ∙ fixed_test T a c))
      ∙ sym (centraliser_order_is T a))
      (λ apart. total_none T.ring T.finite _
      (λ k. pick_off T.ring _ T.ring.one (equals_false T.finite (conj T.group g k) a (λ h. apart (sym (C.constant g k) ∙ ap C.representative h ∙ own)))))

  -- the order of the centraliser over all elements of the class adds up to the order of the group
  pub class_equation : (a : G) → C.representative a ≡ a →
      total T.ring T.finite (λ g. pick T.ring (equals T.finite (C.representative g) a) (centraliser_order T a)) ≡ group_order T
  class_equation a own =
      total_ext T.ring T.finite _ _ (λ g. sym (carriers_count a g own))
      ∙ total_exchange T.ring T.finite T.finite (λ g k. pick T.ring (equals T.finite (conj T.group g k) a) T.ring.one)
      ∙ total_ext T.ring T.finite _ _
      (λ k. total_ext T.ring T.finite _ _ (λ g. ap (λ b. pick T.ring b T.ring.one) (carried_test T g a k))
      ∙ total_pick T.ring T.finite (conj T.group a (T.group.inv k)) (λ g. T.ring.one))
      ∙ sym (group_order_is T)

module _ {A G S : Type 0} (T : Setting A G) (C : Classes T.group) (X : Simples T C S) (E : Finite S) (good : GoodTables X E) (free : IsTorsionFree T.ring) where
  -- the sum of the conjugates of the values of i with the values of j
  product_at_one : (i j : S) → X.at i ≡ X.at j →
      centraliser_product T (X.at i) (λ y. T.involution.bar (X.value i y)) (λ y. T.involution.bar (X.value j y)) T.group.one
      ≡ total T.ring T.finite (λ y. pick T.ring (commute T y (X.at i)) (T.ring.mul (T.involution.bar (X.value i y)) (X.value j y)))
  product_at_one i j same =
      let table : GoodTable X E (X.at i) = good.table (X.at i) (X.at_representative i) in
      centraliser_product_is T (X.at i) _ _ T.group.one
      ∙ total_ext T.ring T.finite _ _
      (λ y. pick_cong T.ring (commute T y (X.at i)) _ _
      (λ h.
      let r : A = slant_root T (X.at i) y (T.group.inv y) in
      let last : T.involution.bar (X.value j (T.group.inv y)) ≡ T.ring.mul (T.involution.bar r) (X.value j y) =
      ap T.involution.bar (table.unitary j y (sym same) (commute_true T y (X.at i) h))
      ∙ T.involution.bar_mul r (T.involution.bar (X.value j y)) ∙ ap (T.ring.mul (T.involution.bar r)) (T.involution.bar_bar (X.value j y)) in
      ap (λ z. T.ring.mul (slant_root T (X.at i) y z) (T.ring.mul (T.involution.bar (X.value i y)) (T.involution.bar (X.value j z)))) (T.group.op_one (T.group.inv y))
      ∙ ap (λ z. T.ring.mul r (T.ring.mul (T.involution.bar (X.value i y)) z)) last
      ∙ sym (T.ring.mul_assoc r _ _) ∙ cancel_pair T r (T.involution.bar r) (T.involution.bar (X.value i y)) (X.value j y) (slant_root_bar T (X.at i) y (T.group.inv y))))

  -- that of i with itself is the order of the centraliser, and that with another nought
  pub row_orthogonality : (i j : S) → X.at i ≡ X.at j →
      total T.ring T.finite (λ y. pick T.ring (commute T y (X.at i)) (T.ring.mul (T.involution.bar (X.value i y)) (X.value j y)))
      ≡ pick T.ring (equals E i j) (centraliser_order T (X.at i))
  row_orthogonality i j same =
      let table : GoodTable X E (X.at i) = good.table (X.at i) (X.at_representative i) in
      sym (product_at_one i j same)
      ∙ pick_where_equal T.ring E i j _ _
      (λ e. cancel_multiple T.ring free (X.degree i) _ _ (X.degree_from_one i)
      (ap (λ l. multiple T.ring (X.degree i) (centraliser_product T (X.at i) (λ y. T.involution.bar (X.value i y)) (λ y. T.involution.bar (X.value l y)) T.group.one)) (sym e)
      ∙ table.product_self i T.group.one refl (one_commutes T (X.at i))
      ∙ ap (T.ring.mul (centraliser_order T (X.at i))) (degree_bar T C X i ∙ X.degree_is i)
      ∙ mul_multiple T.ring (X.degree i) (centraliser_order T (X.at i)) T.ring.one
      ∙ ap (multiple T.ring (X.degree i)) (T.ring.mul_one (centraliser_order T (X.at i)))))
      (λ apart. table.product_other i j T.group.one refl (sym same) apart (one_commutes T (X.at i)))

  -- the products of two full characters at the pairs with one first element
  abbrev pair_product : S → S → G → G → A
  pair_product i j g x = pick T.ring (commute T g x) (T.ring.mul (full_character T C X i g x) (T.involution.bar (full_character T C X j g x)))

  pairs_off : (i j : S) (g : G) → (C.representative g ≡ X.at i → C.representative g ≡ X.at j → ⊥) → total T.ring T.finite (pair_product i j g) ≡ T.ring.nought
  pairs_off i j g none = total_none T.ring T.finite _ (λ x. ap (pick T.ring (commute T g x)) (product_off T C X i j g x g x none) ∙ pick_nought T.ring _)

  -- add up to what the rows do
  pairs_at : (i j : S) (g : G) → C.representative g ≡ X.at i → C.representative g ≡ X.at j →
      total T.ring T.finite (pair_product i j g) ≡ total T.ring T.finite (λ y. pick T.ring (commute T y (X.at j)) (T.ring.mul (T.involution.bar (X.value j y)) (X.value i y)))
  pairs_at i j g at_i at_j =
      total_ext T.ring T.finite _ (λ x. f (conj T.group x k)) (λ x. pick_both T.ring _ _ _ _ (test x) (term x))
      ∙ total_reindex T.ring T.finite T.finite (λ x. conj T.group x k) (λ y. conj T.group y (T.group.inv k)) (λ x. conj_inv T.group x k) (λ y. conj_of_inv T.group y k) f
    where
      k : G
      k = C.carrier g

      f : G → A
      f y = pick T.ring (commute T y (X.at j)) (T.ring.mul (T.involution.bar (X.value j y)) (X.value i y))

      test : (x : G) → commute T g x ≡ commute T (conj T.group x (C.carrier g)) (X.at j)
      test x =
          commute_symmetric T g x ∙ sym (commute_conj T x g (C.carrier g))
          ∙ ap (λ a. commute T (conj T.group x (C.carrier g)) a) (C.carries g ∙ at_j)

      term : (x : G) → commute T g x ≡ true →
          T.ring.mul (full_character T C X i g x) (T.involution.bar (full_character T C X j g x))
          ≡ T.ring.mul (T.involution.bar (X.value j (conj T.group x (C.carrier g)))) (X.value i (conj T.group x (C.carrier g)))
      term x commutes =
          let r : A = transport_root T g x (C.carrier g) in
          ap₂ (λ u v. T.ring.mul u (T.involution.bar v)) (transporter_independent T C X i g x k (C.carries g ∙ at_i) (commute_true T g x commutes))
          (transporter_independent T C X j g x k (C.carries g ∙ at_j) (commute_true T g x commutes))
          ∙ ap (T.ring.mul _) (T.involution.bar_mul r (X.value j (conj T.group x k)))
          ∙ cancel_pair T r (T.involution.bar r) _ _ (transport_root_bar T g x (C.carrier g)) ∙ T.ring.mul_comm _ _

  -- full characters are orthogonal
  pub first_orthogonality : (i j : S) → inner_product T (full_character T C X i) (full_character T C X j) ≡ pick T.ring (equals E i j) (group_order T)
  first_orthogonality i j =
      inner_product_is T (full_character T C X i) (full_character T C X j) ∙ pair_sum_is T _
      ∙ pick_where_equal T.ring E i j _ _
      (λ e. total_ext T.ring T.finite _ _
      (λ g. pick_where_equal T.ring T.finite (C.representative g) (X.at j) _ _
      (λ at_j. pairs_at i j g (at_j ∙ ap X.at (sym e)) at_j ∙ row_orthogonality j i (ap X.at (sym e)) ∙ pick_of T.ring _ _ (equals_of E j i (sym e)))
      (λ off. pairs_off i j g (λ p. off)))
      ∙ class_equation T C (X.at j) (X.at_representative j))
      (λ apart. total_none T.ring T.finite _
      (λ g. by_equality T.finite (C.representative g) (X.at i)
      (λ at_i. by_equality T.finite (C.representative g) (X.at j)
      (λ at_j. pairs_at i j g at_i at_j ∙ row_orthogonality j i (sym at_j ∙ at_i) ∙ pick_off T.ring _ _ (equals_false E j i (λ e. apart (sym e))))
      (λ off. pairs_off i j g (λ p. off)))
      (λ off. pairs_off i j g (λ p q. off p))))
