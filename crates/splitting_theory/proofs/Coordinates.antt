-- Coordinates over a basis are linear, and so is the value of a linear map; that of a character respects products.
use Rattle.splitting_theory.proofs.Names.{◌≡◌, ℕ, zero, suc, ◌<◌, refl, sym, ◌∙◌, ap, eqb, ap₂, CommRing, sum_below, pick, multiple, nought_mul, one_mul, add_mul, mul_left_comm, sum_zero, sum_suc, sum_ext, sum_nought, sum_add, mul_sum, sum_pick, pick_mul, sum_map, pick_map, nought_map, multiple_map, number, HasBasis, evaluate, IsCharacter}

module _ {A B : Type 0} (F : CommRing A) (Z : CommRing B) (r : ℕ) (E : HasBasis F Z r) where
  combination : (ℕ → A) → B
  combination f = sum_below Z r (λ t. Z.mul (E.of (f t)) (E.at t))

  spanned : (z : B) → z ≡ combination (E.coordinate z)
  unfolding combination
  spanned z = sym (E.spans z)

  unique : (f : ℕ → A) (z : B) → z ≡ combination f → (i : ℕ) → i < r → E.coordinate z i ≡ f i
  unfolding combination
  unique f z e i h = ap (λ w. E.coordinate w i) e ∙ E.unique f i h

  pub of_nought : E.of F.nought ≡ Z.nought
  of_nought = nought_map F Z E.of E.of_add

  pub of_sum : (n : ℕ) (f : ℕ → A) → E.of (sum_below F n f) ≡ sum_below Z n (λ i. E.of (f i))
  of_sum n f = sum_map F Z E.of E.of_add n f

  -- a number of the field is that of the algebra
  pub of_number : (v : ℕ) → E.of (number F v) ≡ number Z v
  of_number v = multiple_map F Z E.of E.of_add v F.one ∙ ap (λ a. multiple Z v a) E.of_one

  pub coordinate_add : (z w : B) (i : ℕ) → i < r → E.coordinate (Z.add z w) i ≡ F.add (E.coordinate z i) (E.coordinate w i)
  unfolding combination
  coordinate_add z w = unique (λ t. F.add (E.coordinate z t) (E.coordinate w t)) (Z.add z w)
      (ap₂ Z.add (spanned z) (spanned w) ∙ sym (sum_add Z r (λ t. Z.mul (E.of (E.coordinate z t)) (E.at t)) (λ t. Z.mul (E.of (E.coordinate w t)) (E.at t)))
      ∙ sum_ext Z r (λ t. Z.add (Z.mul (E.of (E.coordinate z t)) (E.at t)) (Z.mul (E.of (E.coordinate w t)) (E.at t))) (λ t. Z.mul (E.of (F.add (E.coordinate z t) (E.coordinate w t))) (E.at t))
      (λ t h. sym (ap (λ a. Z.mul a (E.at t)) (E.of_add (E.coordinate z t) (E.coordinate w t)) ∙ add_mul Z (E.of (E.coordinate z t)) (E.of (E.coordinate w t)) (E.at t))))

  pub coordinate_scale : (c : A) (z : B) (i : ℕ) → i < r → E.coordinate (Z.mul (E.of c) z) i ≡ F.mul c (E.coordinate z i)
  unfolding combination
  coordinate_scale c z = unique (λ t. F.mul c (E.coordinate z t)) (Z.mul (E.of c) z)
      (ap (λ a. Z.mul (E.of c) a) (spanned z) ∙ mul_sum Z r (E.of c) (λ t. Z.mul (E.of (E.coordinate z t)) (E.at t))
      ∙ sum_ext Z r (λ t. Z.mul (E.of c) (Z.mul (E.of (E.coordinate z t)) (E.at t))) (λ t. Z.mul (E.of (F.mul c (E.coordinate z t))) (E.at t))
      (λ t h. sym (ap (λ a. Z.mul a (E.at t)) (E.of_mul c (E.coordinate z t)) ∙ Z.mul_assoc (E.of c) (E.of (E.coordinate z t)) (E.at t))))

  pub coordinate_nought : (i : ℕ) → i < r → E.coordinate Z.nought i ≡ F.nought
  coordinate_nought i h =
      ap (λ z. E.coordinate z i) (sym (nought_mul Z Z.nought) ∙ ap (λ a. Z.mul a Z.nought) (sym of_nought)) ∙ coordinate_scale F.nought Z.nought i h ∙ nought_mul F (E.coordinate Z.nought i)

  pub coordinate_at : (j i : ℕ) → j < r → i < r → E.coordinate (E.at j) i ≡ pick F (eqb i j) F.one
  unfolding combination
  coordinate_at j i h = unique (λ t. pick F (eqb t j) F.one) (E.at j)
      (sym (sum_ext Z r (λ t. Z.mul (E.of (pick F (eqb t j) F.one)) (E.at t)) (λ t. pick Z (eqb t j) (E.at t))
      (λ t k. ap (λ a. Z.mul a (E.at t)) (pick_map F Z E.of E.of_add (eqb t j) F.one ∙ ap (λ a. pick Z (eqb t j) a) E.of_one) ∙ pick_mul Z (eqb t j) Z.one (E.at t) ∙ ap (λ a. pick Z (eqb t j) a) (one_mul Z (E.at t)))
      ∙ sum_pick Z r j E.at h)) i

  -- an element whose coordinates are nought is nought
  pub nought_of_coordinates : (z : B) → ((i : ℕ) → i < r → E.coordinate z i ≡ F.nought) → z ≡ Z.nought
  unfolding combination
  nought_of_coordinates z h =
      spanned z ∙ sum_ext Z r (λ t. Z.mul (E.of (E.coordinate z t)) (E.at t)) (λ t. Z.nought) (λ t k. ap (λ a. Z.mul (E.of a) (E.at t)) (h t k) ∙ ap (λ a. Z.mul a (E.at t)) of_nought ∙ nought_mul Z (E.at t))
      ∙ sum_nought Z r

  -- combinations with other coordinates
  pub coordinate_sum : (n : ℕ) (f : ℕ → B) (i : ℕ) → i < r → E.coordinate (sum_below Z n f) i ≡ sum_below F n (λ k. E.coordinate (f k) i)
  coordinate_sum zero f i h = ap (λ z. E.coordinate z i) (sum_zero Z f) ∙ coordinate_nought i h ∙ sym (sum_zero F (λ k. E.coordinate (f k) i))
  coordinate_sum (suc n) f i h =
      ap (λ z. E.coordinate z i) (sum_suc Z n f) ∙ coordinate_add (sum_below Z n f) (f n) i h ∙ ap (λ a. F.add a (E.coordinate (f n) i)) (coordinate_sum n f i h)
      ∙ sym (sum_suc F n (λ k. E.coordinate (f k) i))

module _ {A B : Type 0} (F : CommRing A) (Z : CommRing B) (r : ℕ) (E : HasBasis F Z r) (u : ℕ → A) where
  pub evaluate_is : (z : B) → evaluate E u z ≡ sum_below F r (λ k. F.mul (E.coordinate z k) (u k))
  unfolding evaluate
  evaluate_is z = refl

  pub evaluate_add : (z w : B) → evaluate E u (Z.add z w) ≡ F.add (evaluate E u z) (evaluate E u w)
  unfolding evaluate
  evaluate_add z w =
      sum_ext F r (λ k. F.mul (E.coordinate (Z.add z w) k) (u k)) (λ k. F.add (F.mul (E.coordinate z k) (u k)) (F.mul (E.coordinate w k) (u k)))
      (λ k h. ap (λ a. F.mul a (u k)) (coordinate_add F Z r E z w k h) ∙ add_mul F (E.coordinate z k) (E.coordinate w k) (u k))
      ∙ sum_add F r (λ k. F.mul (E.coordinate z k) (u k)) (λ k. F.mul (E.coordinate w k) (u k))

  pub evaluate_scale : (c : A) (z : B) → evaluate E u (Z.mul (E.of c) z) ≡ F.mul c (evaluate E u z)
  unfolding evaluate
  evaluate_scale c z =
      sum_ext F r (λ k. F.mul (E.coordinate (Z.mul (E.of c) z) k) (u k)) (λ k. F.mul c (F.mul (E.coordinate z k) (u k)))
      (λ k h. ap (λ a. F.mul a (u k)) (coordinate_scale F Z r E c z k h) ∙ F.mul_assoc c (E.coordinate z k) (u k))
      ∙ sym (mul_sum F r c (λ k. F.mul (E.coordinate z k) (u k)))

  pub evaluate_nought : evaluate E u Z.nought ≡ F.nought
  evaluate_nought = nought_map Z F (evaluate E u) evaluate_add

  pub evaluate_sum : (n : ℕ) (f : ℕ → B) → evaluate E u (sum_below Z n f) ≡ sum_below F n (λ i. evaluate E u (f i))
  evaluate_sum n f = sum_map Z F (evaluate E u) evaluate_add n f

  pub evaluate_at : (j : ℕ) → j < r → evaluate E u (E.at j) ≡ u j
  evaluate_at j h =
      evaluate_is (E.at j)
      ∙ sum_ext F r (λ k. F.mul (E.coordinate (E.at j) k) (u k)) (λ k. pick F (eqb k j) (u k))
      (λ k i. ap (λ a. F.mul a (u k)) (coordinate_at F Z r E j k h i) ∙ pick_mul F (eqb k j) F.one (u k) ∙ ap (λ a. pick F (eqb k j) a) (one_mul F (u k)))
      ∙ sum_pick F r j u h

  -- a linear combination goes through
  evaluate_combination : (f : ℕ → A) (g : ℕ → B) → evaluate E u (sum_below Z r (λ t. Z.mul (E.of (f t)) (g t))) ≡ sum_below F r (λ t. F.mul (f t) (evaluate E u (g t)))
  evaluate_combination f g =
      evaluate_sum r (λ t. Z.mul (E.of (f t)) (g t)) ∙ sum_ext F r (λ t. evaluate E u (Z.mul (E.of (f t)) (g t))) (λ t. F.mul (f t) (evaluate E u (g t))) (λ t h. evaluate_scale (f t) (g t))

  module _ (C : IsCharacter E u) where
    evaluate_at_times : (i : ℕ) → i < r → (w : B) → evaluate E u (Z.mul (E.at i) w) ≡ F.mul (u i) (evaluate E u w)
    evaluate_at_times i h w =
        ap (λ a. evaluate E u (Z.mul (E.at i) a)) (sym (E.spans w))
        ∙ ap (evaluate E u) (mul_sum Z r (E.at i) (λ t. Z.mul (E.of (E.coordinate w t)) (E.at t))
        ∙ sum_ext Z r (λ t. Z.mul (E.at i) (Z.mul (E.of (E.coordinate w t)) (E.at t))) (λ t. Z.mul (E.of (E.coordinate w t)) (Z.mul (E.at i) (E.at t))) (λ t k. mul_left_comm Z (E.at i) (E.of (E.coordinate w t)) (E.at t)))
        ∙ evaluate_combination (E.coordinate w) (λ t. Z.mul (E.at i) (E.at t))
        ∙ sum_ext F r (λ t. F.mul (E.coordinate w t) (evaluate E u (Z.mul (E.at i) (E.at t)))) (λ t. F.mul (u i) (F.mul (E.coordinate w t) (u t)))
        (λ t k. ap (λ a. F.mul (E.coordinate w t) a) (C.product i t h k) ∙ mul_left_comm F (E.coordinate w t) (u i) (u t))
        ∙ sym (mul_sum F r (u i) (λ t. F.mul (E.coordinate w t) (u t))) ∙ ap (λ a. F.mul (u i) a) (sym (evaluate_is w))

    pub evaluate_one : evaluate E u Z.one ≡ F.one
    evaluate_one = ap (evaluate E u) (sym E.first) ∙ evaluate_at 0 E.some ∙ C.one

    pub evaluate_product : (i : ℕ) → i < r → (w : B) → evaluate E u (Z.mul (E.at i) w) ≡ F.mul (u i) (evaluate E u w)
    evaluate_product = evaluate_at_times
