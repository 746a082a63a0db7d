-- Conjugation of pairs is an action, conjugacy of pairs an equivalence, and conjugates of commuting pairs commute.
use Rattle.pair_orbits.proofs.Names.{◌≡◌, ℕ, ◌+◌, ◌*◌, ◌/◌, ◌%◌, ◌<◌, true, refl, sym, ap, ap₂, ◌∙◌, arith, eq-eqb, eqb-true, mod-lt, div-add-mod, div-lt_iff_lt-mul, mul_comm, div-mul-add, mod-mul-add, row_fits, Table, product, identity_of, IsGroup, conjugate, IsAction, carrier, met_by, met_refl, met_sym, met_trans, conjugate_below, conjugate_by_product, conjugate_of_product, conjugate_by_identity, pair_number, first_of, second_of, is_commuting, conjugate_pair, are_conjugate}
use Rattle.group_table.proofs.Sentences.{identity_below}

module _ (t : Table) where
  -- a pair by its elements
  pub pair_below : (g h : ℕ) → g < t.order → h < t.order → pair_number t g h < t.order * t.order
  pair_below g h p q = omega (arith, q, row_fits g t.order t.order t.order p (omega arith))

  pub first_is : (g h : ℕ) → h < t.order → first_of t (pair_number t g h) ≡ g
  first_is g h q = div-mul-add g t.order h q

  pub second_is : (g h : ℕ) → h < t.order → second_of t (pair_number t g h) ≡ h
  second_is g h q = mod-mul-add g t.order h q

  -- the elements by the pair
  pub pair_is : (p : ℕ) → pair_number t (first_of t p) (second_of t p) ≡ p
  pair_is p = ap (λ x. x + p % t.order) (mul_comm (p / t.order) t.order) ∙ div-add-mod p t.order

  pub conjugate_pair_is : (c p : ℕ) → conjugate_pair t c p ≡ pair_number t (conjugate t c (first_of t p)) (conjugate t c (second_of t p))
  unfolding conjugate_pair
  conjugate_pair_is c p = refl

module _ (t : Table) (G : IsGroup t) where
  pub order_positive : 0 < t.order
  order_positive = let e = identity_below t G in omega (arith, e)

  pub first_below : (p : ℕ) → p < t.order * t.order → first_of t p < t.order
  first_below p q = (div-lt_iff_lt-mul order_positive).1 q

  pub second_below : (p : ℕ) → second_of t p < t.order
  second_below p = mod-lt p order_positive

  pub first_carried : (c p : ℕ) → c < t.order → first_of t (conjugate_pair t c p) ≡ conjugate t c (first_of t p)
  first_carried c p q =
      ap (first_of t) (conjugate_pair_is t c p)
      ∙ first_is t (conjugate t c (first_of t p)) (conjugate t c (second_of t p)) (conjugate_below t G c (second_of t p) q (second_below p))

  pub second_carried : (c p : ℕ) → c < t.order → second_of t (conjugate_pair t c p) ≡ conjugate t c (second_of t p)
  second_carried c p q =
      ap (second_of t) (conjugate_pair_is t c p)
      ∙ second_is t (conjugate t c (first_of t p)) (conjugate t c (second_of t p)) (conjugate_below t G c (second_of t p) q (second_below p))

  pub carried_below : (c p : ℕ) → c < t.order → p < t.order * t.order → conjugate_pair t c p < t.order * t.order
  carried_below c p q r =
      rw (conjugate_pair_is t c p)
      (pair_below t (conjugate t c (first_of t p)) (conjugate t c (second_of t p)) (conjugate_below t G c (first_of t p) q (first_below p r))
      (conjugate_below t G c (second_of t p) q (second_below p)))

  -- k h carries as h and then k
  pub carried_by_product : (k h p : ℕ) → k < t.order → h < t.order → p < t.order * t.order
      → conjugate_pair t (product t k h) p ≡ conjugate_pair t k (conjugate_pair t h p)
  carried_by_product k h p k_below h_below p_below =
      conjugate_pair_is t (product t k h) p
      ∙ ap₂ (pair_number t)
      (conjugate_by_product t G k h (first_of t p) k_below h_below (first_below p p_below) ∙ ap (conjugate t k) (sym (first_carried h p h_below)))
      (conjugate_by_product t G k h (second_of t p) k_below h_below (second_below p) ∙ ap (conjugate t k) (sym (second_carried h p h_below)))
      ∙ sym (conjugate_pair_is t k (conjugate_pair t h p))

  pub carried_by_identity : (p : ℕ) → p < t.order * t.order → conjugate_pair t (identity_of t) p ≡ p
  carried_by_identity p q =
      conjugate_pair_is t (identity_of t) p
      ∙ ap₂ (pair_number t) (conjugate_by_identity t G (first_of t p) (first_below p q)) (conjugate_by_identity t G (second_of t p) (second_below p))
      ∙ pair_is t p

  -- the group acts on the pairs
  pub pairs_action : IsAction t (t.order * t.order) (conjugate_pair t)
  pairs_action = record { below = carried_below; by_product = carried_by_product; by_identity = carried_by_identity }

  -- some k carries p to q, where they are conjugate
  pub pair_carrier : (p q : ℕ) → are_conjugate t p q ≡ true → (k : ℕ) × (k < t.order) × (conjugate_pair t k p ≡ q)
  unfolding are_conjugate
  pair_carrier = carrier t G (t.order * t.order) (conjugate_pair t) pairs_action

  -- where some k carries p to q, they are conjugate
  pub pair_conjugate_by : (p q k : ℕ) → k < t.order → conjugate_pair t k p ≡ q → are_conjugate t p q ≡ true
  unfolding are_conjugate
  pair_conjugate_by = met_by t G (t.order * t.order) (conjugate_pair t) pairs_action

  pub pair_refl : (p : ℕ) → p < t.order * t.order → are_conjugate t p p ≡ true
  unfolding are_conjugate
  pair_refl = met_refl t G (t.order * t.order) (conjugate_pair t) pairs_action

  pub pair_sym : (p q : ℕ) → p < t.order * t.order → are_conjugate t p q ≡ true → are_conjugate t q p ≡ true
  unfolding are_conjugate
  pair_sym = met_sym t G (t.order * t.order) (conjugate_pair t) pairs_action

  pub pair_trans : (p q r : ℕ) → p < t.order * t.order → are_conjugate t p q ≡ true → are_conjugate t q r ≡ true → are_conjugate t p r ≡ true
  unfolding are_conjugate
  pair_trans = met_trans t G (t.order * t.order) (conjugate_pair t) pairs_action

  -- conjugates of elements that commute do
  pub commuting_carried : (c p : ℕ) → c < t.order → p < t.order * t.order → is_commuting t p ≡ true → is_commuting t (conjugate_pair t c p) ≡ true
  commuting_carried c p q r so =
      let g = first_of t p in
      let h = second_of t p in
      let g_below = first_below p r in
      let h_below = second_below p in
      let first = first_carried c p q in
      let second = second_carried c p q in
      eq-eqb _ _
      (ap₂ (product t) first second ∙ sym (conjugate_of_product t G c g h q g_below h_below)
      ∙ ap (conjugate t c) (eqb-true _ _ so) ∙ conjugate_of_product t G c h g q h_below g_below ∙ sym (ap₂ (product t) second first))

  pub commuting_conjugate : (p q : ℕ) → p < t.order * t.order → are_conjugate t p q ≡ true → is_commuting t p ≡ true → is_commuting t q ≡ true
  commuting_conjugate p q p_below conjugates so =
      let (k, below, carries) = pair_carrier p q conjugates in
      ap (is_commuting t) (sym carries) ∙ commuting_carried k p below p_below so
