-- The relations of S and T.
use Rattle.characters.proofs.Names.{◌≡◌, refl, sym, ◌∙◌, ap, ap₂, IsTorsionFree, pick, Finite, equals, total, product_rules, one_mul, mul_left_comm, mul_pick, pick_mul, op_op_inv, bar_one, total_ext, total_exchange, total_pick, mul_total, total_mul, total_map, Setting, Classes, Commuting, slant_root, Simples, AreTwists, group_order, GoodTables, pair_sum, full_character, s_sum, pair_term}
use Rattle.characters.proofs.SettingLaws.{inverse_unique, commuting_product, commuting_inv, slant_root_bar, slant_root_associative, slant_root_second_one, slant_root_product_index, slant_roots_inverse, equals_symmetric, undo}
use Rattle.characters.proofs.PairLaws.{pair_sum_ext, mul_pair_sum, bar_pair_sum, pair_sum_swap, total_pair_sum, pair_sum_shift, pair_sum_inverse}
use Rattle.characters.proofs.SLaws.{pair_term_is, s_sum_is, s_sum_symmetric}
use Rattle.characters.proofs.OrthogonalityLaws.{group_order_is}
use Rattle.characters.proofs.Expansion.{expansion}
use Rattle.characters.proofs.Unitarity.{exchanged, exchanged_covariant, s_sum_inner, s_unitary}
use Rattle.characters.proofs.TwistLaws.{twist_acts, inverse_argument}

module _ {A G S : Type 0} (T : Setting A G) (C : Classes T.group) (X : Simples T C S) (E : Finite S) (good : GoodTables X E) (free : IsTorsionFree T.ring) where
  -- the product of S, weights and S, where the weights carry each full character to another argument
  weighted_product : (i j : S) (w : S → A) (q : G → G → A) (y : G → G → G)
      → ((g h : G) → Commuting T g h → Commuting T h (y g h))
      → ((l : S) (g h : G) → Commuting T g h → T.ring.mul (w l) (T.involution.bar (full_character T C X l h g)) ≡ T.ring.mul (q g h) (full_character T C X l h (y g h)))
      → total T.ring E (λ l. T.ring.mul (s_sum T C X i l) (T.ring.mul (w l) (s_sum T C X l j)))
      ≡ T.ring.mul (group_order T)
      (pair_sum T (λ g h. T.ring.mul (T.involution.bar (full_character T C X j g h)) (T.ring.mul (q g h) (T.involution.bar (full_character T C X i (y g h) h)))))
  weighted_product i j w q y commutes carried =
      total_ext T.ring E _ _
      (λ l. ap (λ u. T.ring.mul (s_sum T C X i l) (T.ring.mul (w l) u)) (s_sum_symmetric T C X l j ∙ s_sum_is T C X j l ∙ pair_sum_ext T _ _ (λ g h c. pair_term_is T C X j l g h))
      ∙ ap (T.ring.mul (s_sum T C X i l)) (mul_pair_sum T (w l) _) ∙ mul_pair_sum T (s_sum T C X i l) _
      ∙ pair_sum_ext T _ _
      (λ g h c. sort (s_sum T C X i l) (w l) _ _
      ∙ ap (λ u. T.ring.mul (T.involution.bar (full_character T C X j g h)) (T.ring.mul (s_sum T C X i l) u)) (carried l g h c)
      ∙ ap (T.ring.mul (T.involution.bar (full_character T C X j g h))) (mul_left_comm T.ring (s_sum T C X i l) (q g h) (full_character T C X l h (y g h)))))
      ∙ total_pair_sum T E _
      ∙ pair_sum_ext T _ _
      (λ g h c. sym (mul_total T.ring E (T.involution.bar (full_character T C X j g h)) _)
      ∙ ap (T.ring.mul (T.involution.bar (full_character T C X j g h)))
      (sym (mul_total T.ring E (q g h) _)
      ∙ ap (T.ring.mul (q g h))
      (total_ext T.ring E _ _ (λ l. ap (λ u. T.ring.mul u (full_character T C X l h (y g h))) (s_sum_inner T C X i l))
      ∙ expansion T C X E good (exchanged T C X i) (exchanged_covariant T C X i) h (y g h) (commutes g h c))
      ∙ mul_left_comm T.ring (q g h) (group_order T) _)
      ∙ mul_left_comm T.ring _ (group_order T) _)
      ∙ sym (mul_pair_sum T (group_order T) _)
    where
      sort : (a w u v : A) → T.ring.mul a (T.ring.mul w (T.ring.mul u v)) ≡ T.ring.mul u (T.ring.mul a (T.ring.mul w v))
      sort a w u v = simp (product_rules, T.ring)

  -- the conjugate of a full character, by its value at the inverse
  bar_by_inverse : (l : S) (h g : G) → Commuting T h g →
      T.involution.bar (full_character T C X l h g) ≡ T.ring.mul (T.involution.bar (slant_root T h g (T.group.inv g))) (full_character T C X l h (T.group.inv g))
  bar_by_inverse l h g c =
      undo T (slant_root T h g (T.group.inv g)) (T.involution.bar (slant_root T h g (T.group.inv g))) _ _ (slant_root_bar T h g (T.group.inv g)) (inverse_argument T C X E good free l h g c)

  -- the square of S, with the conjugates of two full characters
  s_square : (i j : S) →
      total T.ring E (λ l. T.ring.mul (s_sum T C X i l) (s_sum T C X l j))
      ≡ T.ring.mul (group_order T)
      (pair_sum T (λ g h. T.ring.mul (T.involution.bar (full_character T C X j g h))
      (T.ring.mul (T.involution.bar (slant_root T h g (T.group.inv g))) (T.involution.bar (full_character T C X i (T.group.inv g) h)))))
  s_square i j =
      total_ext T.ring E _ _ (λ l. ap (T.ring.mul (s_sum T C X i l)) (sym (one_mul T.ring (s_sum T C X l j))))
      ∙ weighted_product i j (λ l. T.ring.one) (λ g h. T.involution.bar (slant_root T h g (T.group.inv g))) (λ g h. T.group.inv g)
      (λ g h c. sym (commuting_inv T g h c))
      (λ l g h c. one_mul T.ring _ ∙ bar_by_inverse l h g (sym c))

  group_order_bar : T.involution.bar (group_order T) ≡ group_order T
  group_order_bar =
      ap T.involution.bar (group_order_is T) ∙ total_map T.ring T.ring T.finite T.involution.bar T.involution.bar_add _
      ∙ total_ext T.ring T.finite _ _ (λ g. bar_one T.ring T.involution) ∙ sym (group_order_is T)

  -- it is its own conjugate
  pub s_square_bar : (i j : S) →
      T.involution.bar (total T.ring E (λ l. T.ring.mul (s_sum T C X i l) (s_sum T C X l j))) ≡ total T.ring E (λ l. T.ring.mul (s_sum T C X i l) (s_sum T C X l j))
  s_square_bar i j =
      ap T.involution.bar (s_square i j) ∙ T.involution.bar_mul _ _ ∙ ap₂ T.ring.mul group_order_bar (bar_pair_sum T _ ∙ pair_sum_inverse T _ ∙ pair_sum_ext T _ _ term)
      ∙ sym (s_square i j)
    where
      sort : (a u d b v : A) → T.ring.mul (T.ring.mul a u) (T.ring.mul d (T.ring.mul b v)) ≡ T.ring.mul u (T.ring.mul (T.ring.mul (T.ring.mul a b) d) v)
      sort a u d b v = simp (product_rules, T.ring)

      sorted : (a b c d : A) → T.ring.mul c (T.ring.mul (T.ring.mul a b) d) ≡ T.ring.mul (T.ring.mul a b) (T.ring.mul c d)
      sorted a b c d = simp (product_rules, T.ring)

      term : (g h : G) → Commuting T g h →
          T.involution.bar (T.ring.mul (T.involution.bar (full_character T C X j g (T.group.inv h)))
          (T.ring.mul (T.involution.bar (slant_root T (T.group.inv h) g (T.group.inv g))) (T.involution.bar (full_character T C X i (T.group.inv g) (T.group.inv h)))))
          ≡ T.ring.mul (T.involution.bar (full_character T C X j g h)) (T.ring.mul (T.involution.bar (slant_root T h g (T.group.inv g))) (T.involution.bar (full_character T C X i (T.group.inv g) h)))
      term g h c =
          let k : G = T.group.inv g in
          let l : G = T.group.inv h in
          let a : A = slant_root T g h l in
          let b : A = slant_root T k h l in
          let r : A = slant_root T h g k in
          let d : A = slant_root T l g k in
          let u : A = T.involution.bar (full_character T C X j g h) in
          let v : A = T.involution.bar (full_character T C X i k h) in
          T.involution.bar_mul _ _ ∙ ap₂ T.ring.mul (T.involution.bar_bar _) (T.involution.bar_mul _ _ ∙ ap₂ T.ring.mul (T.involution.bar_bar _) (T.involution.bar_bar _))
          ∙ ap₂ (λ x y. T.ring.mul x (T.ring.mul d y)) (inverse_argument T C X E good free j g h c) (inverse_argument T C X E good free i k h (commuting_inv T g h c))
          ∙ sort a u d b v
          ∙ ap (λ z. T.ring.mul u (T.ring.mul z v))
          (inverse_unique T r _ _ (sorted a b r d ∙ slant_roots_inverse T g h c) (slant_root_bar T h g k))

  -- matrix products associate
  products_associate : (a : S → A) (b : S → S → A) (c : S → A) →
      total T.ring E (λ k. T.ring.mul (total T.ring E (λ l. T.ring.mul (a l) (b l k))) (c k)) ≡ total T.ring E (λ l. T.ring.mul (a l) (total T.ring E (λ k. T.ring.mul (b l k) (c k))))
  products_associate a b c =
      total_ext T.ring E _ _ (λ k. total_mul T.ring E _ (c k)) ∙ total_exchange T.ring E E _
      ∙ total_ext T.ring E _ _ (λ l. total_ext T.ring E _ _ (λ k. T.ring.mul_assoc _ _ _) ∙ sym (mul_total T.ring E (a l) _))

  -- S undoes its conjugate
  s_undoes : (v : S → A) (l : S) →
      total T.ring E (λ k. T.ring.mul (s_sum T C X l k) (total T.ring E (λ m. T.ring.mul (T.involution.bar (s_sum T C X m k)) (v m)))) ≡ T.ring.mul (T.ring.mul (group_order T) (group_order T)) (v l)
  s_undoes v l =
      total_ext T.ring E _ _ (λ k. mul_total T.ring E (s_sum T C X l k) _) ∙ total_exchange T.ring E E _
      ∙ total_ext T.ring E _ _
      (λ m. total_ext T.ring E _ _ (λ k. sym (T.ring.mul_assoc _ _ _)) ∙ sym (total_mul T.ring E _ (v m))
      ∙ ap (λ u. T.ring.mul u (v m)) (s_unitary T C X E good free l m)
      ∙ pick_mul T.ring (equals E l m) _ (v m) ∙ ap (λ b. pick T.ring b (T.ring.mul (T.ring.mul (group_order T) (group_order T)) (v m))) (equals_symmetric E l m))
      ∙ total_pick T.ring E l (λ m. T.ring.mul (T.ring.mul (group_order T) (group_order T)) (v m))

  -- the fourth power of S is a multiple of the identity
  pub s_fourth : (i j : S) →
      total T.ring E (λ k. T.ring.mul (total T.ring E (λ l. T.ring.mul (s_sum T C X i l) (s_sum T C X l k))) (total T.ring E (λ m. T.ring.mul (s_sum T C X k m) (s_sum T C X m j))))
      ≡ pick T.ring (equals E i j) (T.ring.mul (T.ring.mul (group_order T) (group_order T)) (T.ring.mul (group_order T) (group_order T)))
  s_fourth i j =
      products_associate (s_sum T C X i) (s_sum T C X) _
      ∙ total_ext T.ring E _ _
      (λ l. ap (T.ring.mul (s_sum T C X i l))
      (total_ext T.ring E _ _ (λ k. ap (T.ring.mul (s_sum T C X l k)) (conjugate k))
      ∙ s_undoes (λ m. T.involution.bar (s_sum T C X j m)) l)
      ∙ mul_left_comm T.ring (s_sum T C X i l) (T.ring.mul (group_order T) (group_order T)) _)
      ∙ sym (mul_total T.ring E (T.ring.mul (group_order T) (group_order T)) _)
      ∙ ap (T.ring.mul (T.ring.mul (group_order T) (group_order T))) (s_unitary T C X E good free i j)
      ∙ mul_pick T.ring (equals E i j) _ _
    where
      conjugate : (k : S) → total T.ring E (λ m. T.ring.mul (s_sum T C X k m) (s_sum T C X m j)) ≡ total T.ring E (λ m. T.ring.mul (T.involution.bar (s_sum T C X m k)) (T.involution.bar (s_sum T C X j m)))
      conjugate k =
          sym (s_square_bar k j) ∙ total_map T.ring T.ring E T.involution.bar T.involution.bar_add _
          ∙ total_ext T.ring E _ _ (λ m. T.involution.bar_mul _ _ ∙ ap₂ (λ u v. T.ring.mul (T.involution.bar u) (T.involution.bar v)) (s_sum_symmetric T C X k m) (s_sum_symmetric T C X m j))

  module _ (twist : S → A) (twists : AreTwists X twist) where
    -- the conjugate of a full character at the product with its own element
    twist_bar : (l : S) (g x : G) → Commuting T g x →
        T.involution.bar (full_character T C X l g (T.group.op g x)) ≡ T.ring.mul (slant_root T g g x) (T.ring.mul (T.involution.bar (twist l)) (T.involution.bar (full_character T C X l g x)))
    twist_bar l g x c =
        undo T (T.involution.bar (slant_root T g g x)) (slant_root T g g x) _ _ (T.ring.mul_comm _ _ ∙ slant_root_bar T g g x)
        (sym (T.involution.bar_mul (twist l) (full_character T C X l g x)) ∙ ap T.involution.bar (sym (twist_acts T C X E good free twist twists l g x c)) ∙ T.involution.bar_mul _ _)

    -- the roots that come together
    roots_cancel : (g p : G) → Commuting T p g →
        T.ring.mul (T.ring.mul (slant_root T p p g) (slant_root T g g p))
        (T.ring.mul (T.involution.bar (slant_root T (T.group.op p g) g (T.group.inv g))) (slant_root T (T.group.op p g) (T.group.op p g) (T.group.inv g)))
        ≡ T.ring.one
    roots_cancel g p c =
        let h : G = T.group.op p g in
        let k : G = T.group.inv g in
        let r : A = slant_root T h g k in
        let step : T.ring.mul (slant_root T h p g) (slant_root T h h k) ≡ r =
        slant_root_associative T h p g k (sym (commuting_product T p g p refl (sym c)))
        ∙ ap₂ T.ring.mul (ap (slant_root T h p) (T.group.op_inv g) ∙ slant_root_second_one T h p) refl ∙ one_mul T.ring r in
        ap₂ T.ring.mul (sym (slant_root_product_index T p g (sym c))) refl
        ∙ mul_left_comm T.ring (slant_root T h p g) (T.involution.bar r) (slant_root T h h k)
        ∙ ap (T.ring.mul (T.involution.bar r)) step ∙ T.ring.mul_comm _ _ ∙ slant_root_bar T h g k

    -- the product of S, T and S
    pub s_t_s : (i j : S) →
        total T.ring E (λ l. T.ring.mul (s_sum T C X i l) (T.ring.mul (twist l) (s_sum T C X l j)))
        ≡ T.ring.mul (group_order T) (T.ring.mul (T.ring.mul (T.involution.bar (twist i)) (T.involution.bar (twist j))) (s_sum T C X i j))
    s_t_s i j =
        weighted_product i j twist
        (λ g h. T.ring.mul (T.involution.bar (slant_root T h g (T.group.inv g))) (slant_root T h h (T.group.inv g)))
        (λ g h. T.group.op h (T.group.inv g))
        (λ g h c. sym (commuting_product T h (T.group.inv g) h refl (commuting_inv T g h c)))
        (λ l g h c. ap (T.ring.mul (twist l)) (bar_by_inverse l h g (sym c)) ∙ mul_left_comm T.ring (twist l) _ _
        ∙ ap (T.ring.mul (T.involution.bar (slant_root T h g (T.group.inv g)))) (sym (twist_acts T C X E good free twist twists l h (T.group.inv g) (sym (commuting_inv T g h c))))
        ∙ sym (T.ring.mul_assoc _ _ _))
        ∙ ap (T.ring.mul (group_order T))
        (pair_sum_shift T _
        ∙ pair_sum_ext T _ _ (λ g p c. term g p (sym c))
        ∙ sym (mul_pair_sum T (T.ring.mul (T.involution.bar (twist i)) (T.involution.bar (twist j))) _)
        ∙ ap (T.ring.mul (T.ring.mul (T.involution.bar (twist i)) (T.involution.bar (twist j)))) (sym (s_sum_is T C X i j ∙ pair_sum_swap T (pair_term T C X i j))))
      where
        sort : (s v y q t u x : A) → T.ring.mul (T.ring.mul s (T.ring.mul v y)) (T.ring.mul q (T.ring.mul t (T.ring.mul u x))) ≡ T.ring.mul (T.ring.mul (T.ring.mul t s) q) (T.ring.mul (T.ring.mul u v) (T.ring.mul x y))
        sort s v y q t u x = simp (product_rules, T.ring)

        term : (g p : G) → Commuting T p g →
            T.ring.mul (T.involution.bar (full_character T C X j g (T.group.op p g)))
            (T.ring.mul (T.ring.mul (T.involution.bar (slant_root T (T.group.op p g) g (T.group.inv g))) (slant_root T (T.group.op p g) (T.group.op p g) (T.group.inv g)))
            (T.involution.bar (full_character T C X i (T.group.op (T.group.op p g) (T.group.inv g)) (T.group.op p g))))
            ≡ T.ring.mul (T.ring.mul (T.involution.bar (twist i)) (T.involution.bar (twist j))) (pair_term T C X i j p g)
        term g p c =
            let q : A = T.ring.mul (T.involution.bar (slant_root T (T.group.op p g) g (T.group.inv g))) (slant_root T (T.group.op p g) (T.group.op p g) (T.group.inv g)) in
            ap₂ (λ x y. T.ring.mul x (T.ring.mul q y))
            (ap (λ z. T.involution.bar (full_character T C X j g z)) c ∙ twist_bar j g p (sym c))
            (ap (λ z. T.involution.bar (full_character T C X i z (T.group.op p g))) (op_op_inv T.group g p) ∙ twist_bar i p g c)
            ∙ sort (slant_root T g g p) (T.involution.bar (twist j)) (T.involution.bar (full_character T C X j g p)) q (slant_root T p p g) (T.involution.bar (twist i)) (T.involution.bar (full_character T C X i p g))
            ∙ ap₂ T.ring.mul (roots_cancel g p c) (ap (T.ring.mul (T.ring.mul (T.involution.bar (twist i)) (T.involution.bar (twist j)))) (sym (pair_term_is T C X i j p g)))
            ∙ one_mul T.ring _

    -- the third power of S T, with the square of S
    pub s_t_cubed : (i j : S) →
        total T.ring E (λ l. T.ring.mul (s_sum T C X i l) (T.ring.mul (twist l) (T.ring.mul (total T.ring E (λ k. T.ring.mul (s_sum T C X l k) (T.ring.mul (twist k) (s_sum T C X k j)))) (twist j))))
        ≡ T.ring.mul (group_order T) (total T.ring E (λ l. T.ring.mul (s_sum T C X i l) (s_sum T C X l j)))
    s_t_cubed i j =
        total_ext T.ring E _ _
        (λ l. ap (λ u. T.ring.mul (s_sum T C X i l) (T.ring.mul (twist l) (T.ring.mul u (twist j)))) (s_t_s l j)
        ∙ sort (s_sum T C X i l) (twist l) (group_order T) (T.involution.bar (twist l)) (T.involution.bar (twist j)) (s_sum T C X l j) (twist j)
        ∙ ap₂ (λ u v. T.ring.mul (T.ring.mul u v) (T.ring.mul (group_order T) (T.ring.mul (s_sum T C X i l) (s_sum T C X l j)))) (twists.unit l) (twists.unit j)
        ∙ ap (λ u. T.ring.mul u (T.ring.mul (group_order T) (T.ring.mul (s_sum T C X i l) (s_sum T C X l j)))) (T.ring.mul_one T.ring.one) ∙ one_mul T.ring _)
        ∙ sym (mul_total T.ring E (group_order T) _)
      where
        sort : (a t n u v b w : A) → T.ring.mul a (T.ring.mul t (T.ring.mul (T.ring.mul n (T.ring.mul (T.ring.mul u v) b)) w)) ≡ T.ring.mul (T.ring.mul (T.ring.mul t u) (T.ring.mul w v)) (T.ring.mul n (T.ring.mul a b))
        sort a t n u v b w = simp (product_rules, T.ring)
