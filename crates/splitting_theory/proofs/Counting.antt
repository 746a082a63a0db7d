-- A split algebra has as many pieces as elements in its basis.
use Rattle.splitting_theory.proofs.Names.{◌≡◌, ℕ, zero, suc, ◌<◌, ◌≤◌, List, [], ◌∷◌, length, get_or, sym, ◌∙◌, ap, arith, inl, inr, ◌⊎◌, ◌≢◌, eqb, cases_lt, cases_eq, eq-eqb, ne_eqb, eqb-true, CommRing, sum_below, sum_list, pick, nought_mul, sum_zero, sum_ext, sum_nought, sum_mul, mul_sum, sum_first, sum_pick, sum_list_nil, sum_list_cons, pick_of, pick_off, pick_same, mul_pick, Each, Pairwise, number, IsPiece, Precedes, IsSplitting, Field, HasBasis, AreDependent}
use Rattle.splitting_theory.proofs.Coordinates.{of_nought, of_sum, of_number, coordinate_sum, coordinate_scale, coordinate_at, coordinate_nought, nought_of_coordinates}
use Rattle.splitting_theory.proofs.Characters.{scale_cancel}
use Rattle.splitting_theory.proofs.Dependence.{dependent}

module _ {X : Type 0} where
  pub each_at : (P : X → Type 0) (xs : List X) (d : X) (i : ℕ) → Each P xs → i < length xs → P (get_or xs i d)
  each_at P [] d i h k = absurd (omega arith)
  each_at P (x ∷ xs) d zero h k = h.0
  each_at P (x ∷ xs) d (suc i) h k = each_at P xs d i h.1 (omega arith)

  pub pairwise_at : (R : X → X → Type 0) (xs : List X) (d : X) (i j : ℕ) → Pairwise R xs → i < j → j < length xs → R (get_or xs i d) (get_or xs j d)
  pairwise_at R [] d i j h l k = absurd (omega arith)
  pairwise_at R (x ∷ xs) d i zero h l k = absurd (omega arith)
  pairwise_at R (x ∷ xs) d zero (suc j) h l k = each_at (R x) xs d j h.0 (omega arith)
  pairwise_at R (x ∷ xs) d (suc i) (suc j) h l k = pairwise_at R xs d i j h.1 (omega arith) (omega arith)

module _ {B : Type 0} (Z : CommRing B) where
  pub sum_list_at : (es : List B) → sum_list Z es ≡ sum_below Z (length es) (λ i. get_or es i Z.nought)
  sum_list_at [] = sum_list_nil Z ∙ sym (sum_zero Z (λ i. get_or [] i Z.nought))
  sum_list_at (e ∷ es) = sum_list_cons Z e es ∙ ap (λ a. Z.add e a) (sum_list_at es) ∙ sym (sum_first Z (length es) (λ i. get_or (e ∷ es) i Z.nought))

module _ {A B : Type 0} (F : CommRing A) (L : Field F) (Z : CommRing B) (r : ℕ) (E : HasBasis F Z r) (q : ℕ) (es : List B) (S : IsSplitting Z q E.at r es) where
  piece : ℕ → B
  piece i = get_or es i Z.nought

  is_piece : (i : ℕ) → i < length es → IsPiece Z q E.at r (piece i)
  unfolding piece
  is_piece i h = each_at (IsPiece Z q E.at r) es Z.nought i S.each h

  product : (i p : ℕ) → i < length es → p < length es → Z.mul (piece i) (piece p) ≡ pick Z (eqb i p) (piece i)
  unfolding piece
  product i p i_below p_below = cases (cases_eq i p)
    where
      apart : (i < p) ⊎ (p ≤ i) → i ≢ p → Z.mul (piece i) (piece p) ≡ Z.nought
      apart (inl h) d = (pairwise_at (Precedes Z q E.at r) es Z.nought i p S.order h p_below).apart
      apart (inr h) d = Z.mul_comm (piece i) (piece p) ∙ (pairwise_at (Precedes Z q E.at r) es Z.nought p i S.order (let k : p ≢ i = λ e. d (sym e) in omega arith) i_below).apart

      cases : (i ≡ p) ⊎ (i ≢ p) → Z.mul (piece i) (piece p) ≡ pick Z (eqb i p) (piece i)
      cases (inl e) = ap (λ j. Z.mul (piece i) (piece j)) (sym e) ∙ (is_piece i i_below).idempotent ∙ sym (pick_of Z (eqb i p) (piece i) (eq-eqb i p e))
      cases (inr d) = apart (cases_lt i p) d ∙ sym (pick_off Z (eqb i p) (piece i) (ne_eqb i p d))

  -- a combination of pieces times one of them
  combination_product : (n : ℕ) (c : ℕ → A) (p : ℕ) → n ≤ length es → p < n → Z.mul (sum_below Z n (λ i. Z.mul (E.of (c i)) (piece i))) (piece p) ≡ Z.mul (E.of (c p)) (piece p)
  combination_product n c p small below =
      sum_mul Z n (λ i. Z.mul (E.of (c i)) (piece i)) (piece p)
      ∙ sum_ext Z n (λ i. Z.mul (Z.mul (E.of (c i)) (piece i)) (piece p)) (λ i. pick Z (eqb i p) (Z.mul (E.of (c i)) (piece i)))
      (λ i h. Z.mul_assoc (E.of (c i)) (piece i) (piece p) ∙ ap (λ a. Z.mul (E.of (c i)) a) (product i p (omega arith) (omega arith)) ∙ mul_pick Z (eqb i p) (E.of (c i)) (piece i))
      ∙ sum_pick Z n p (λ i. Z.mul (E.of (c i)) (piece i)) below

  combination_nought : (n : ℕ) (c : ℕ → A) → ((k : ℕ) → k < r → sum_below F n (λ i. F.mul (c i) (E.coordinate (piece i) k)) ≡ F.nought) → sum_below Z n (λ i. Z.mul (E.of (c i)) (piece i)) ≡ Z.nought
  combination_nought n c none =
      nought_of_coordinates F Z r E (sum_below Z n (λ i. Z.mul (E.of (c i)) (piece i))) (λ k h. coordinate_sum F Z r E n (λ i. Z.mul (E.of (c i)) (piece i)) k h
      ∙ sum_ext F n (λ i. E.coordinate (Z.mul (E.of (c i)) (piece i)) k) (λ i. F.mul (c i) (E.coordinate (piece i) k)) (λ i j. coordinate_scale F Z r E (c i) (piece i) k h) ∙ none k h)

  too_many_by : AreDependent F r (λ i k. E.coordinate (piece i) k) → r < length es → ⊥
  too_many_by D more =
      D.there (scale_cancel F L Z r E (D.coefficient D.place) (piece D.place) (is_piece D.place (let h = D.place_below in omega arith)).there
      (sym (combination_product (suc r) D.coefficient D.place (omega arith) D.place_below) ∙ ap (λ a. Z.mul a (piece D.place)) (combination_nought (suc r) D.coefficient D.none) ∙ nought_mul Z (piece D.place)))

  -- the value by which the basis multiplies a piece
  value_by : (i t : ℕ) → (i < length es) ⊎ (length es ≤ i) → (t < r) ⊎ (r ≤ t) → A
  value_by i t (inl h) (inl k) = number F ((is_piece i h).served t k).value
  value_by i t (inl h) (inr k) = F.nought
  value_by i t (inr h) k = F.nought

  value : ℕ → ℕ → A
  value i t = value_by i t (cases_lt i (length es)) (cases_lt t r)

  value_acts_by : (i t : ℕ) (h : (i < length es) ⊎ (length es ≤ i)) (k : (t < r) ⊎ (r ≤ t)) → i < length es → t < r → Z.mul (E.at t) (piece i) ≡ Z.mul (E.of (value_by i t h k)) (piece i)
  unfolding value_by
  value_acts_by i t (inl h) (inl k) a b = ((is_piece i h).served t k).acts ∙ ap (λ z. Z.mul z (piece i)) (sym (of_number F Z r E ((is_piece i h).served t k).value))
  value_acts_by i t (inl h) (inr k) a b = absurd (omega arith)
  value_acts_by i t (inr h) k a b = absurd (omega arith)

  value_acts : (i t : ℕ) → i < length es → t < r → Z.mul (E.at t) (piece i) ≡ Z.mul (E.of (value i t)) (piece i)
  unfolding value
  value_acts i t h k = value_acts_by i t (cases_lt i (length es)) (cases_lt t r) h k

  -- a combination of the first of the basis
  basis_sum : (ℕ → A) → ℕ → B
  basis_sum c n = sum_below Z n (λ t. Z.mul (E.of (c t)) (E.at t))

  basis_coordinate : (c : ℕ → A) (n p : ℕ) → n ≤ r → p < n → E.coordinate (basis_sum c n) p ≡ c p
  unfolding basis_sum
  basis_coordinate c n p small below =
      coordinate_sum F Z r E n (λ t. Z.mul (E.of (c t)) (E.at t)) p (omega arith)
      ∙ sum_ext F n (λ t. E.coordinate (Z.mul (E.of (c t)) (E.at t)) p) (λ t. pick F (eqb t p) (c t))
      (λ t h. coordinate_scale F Z r E (c t) (E.at t) p (omega arith) ∙ ap (λ a. F.mul (c t) a) (coordinate_at F Z r E t p (omega arith) (omega arith)) ∙ mul_pick F (eqb p t) (c t) F.one ∙ ap (λ a. pick F (eqb p t) a) (F.mul_one (c t))
      ∙ pick_same F (eqb p t) (eqb t p) (c t) (λ e. eq-eqb t p (sym (eqb-true p t e))) (λ e. eq-eqb p t (sym (eqb-true t p e))))
      ∙ sum_pick F n p c below

  basis_on_piece : (c : ℕ → A) (n i : ℕ) → n ≤ r → i < length es → Z.mul (basis_sum c n) (piece i) ≡ Z.mul (E.of (sum_below F n (λ t. F.mul (c t) (value i t)))) (piece i)
  unfolding basis_sum
  basis_on_piece c n i small below =
      sum_mul Z n (λ t. Z.mul (E.of (c t)) (E.at t)) (piece i)
      ∙ sum_ext Z n (λ t. Z.mul (Z.mul (E.of (c t)) (E.at t)) (piece i)) (λ t. Z.mul (E.of (F.mul (c t) (value i t))) (piece i))
      (λ t h. Z.mul_assoc (E.of (c t)) (E.at t) (piece i) ∙ ap (λ a. Z.mul (E.of (c t)) a) (value_acts i t below (omega arith)) ∙ sym (Z.mul_assoc (E.of (c t)) (E.of (value i t)) (piece i)) ∙ ap (λ a. Z.mul a (piece i)) (sym (E.of_mul (c t) (value i t))))
      ∙ sym (sum_mul Z n (λ t. E.of (F.mul (c t) (value i t))) (piece i)) ∙ ap (λ a. Z.mul a (piece i)) (sym (of_sum F Z r E n (λ t. F.mul (c t) (value i t))))

  -- what is nought on all pieces is nought
  nought_on_pieces : (z : B) → ((i : ℕ) → i < length es → Z.mul z (piece i) ≡ Z.nought) → z ≡ Z.nought
  unfolding piece
  nought_on_pieces z h =
      sym (Z.mul_one z) ∙ ap (λ a. Z.mul z a) (sym S.whole ∙ sum_list_at Z es) ∙ mul_sum Z (length es) z (λ i. get_or es i Z.nought)
      ∙ sum_ext Z (length es) (λ i. Z.mul z (get_or es i Z.nought)) (λ i. Z.nought) h ∙ sum_nought Z (length es)

  too_few_by : AreDependent F (length es) (λ t i. value i t) → length es < r → ⊥
  too_few_by D more =
      D.there (sym (basis_coordinate D.coefficient (suc (length es)) D.place more D.place_below)
      ∙ ap (λ z. E.coordinate z D.place) (nought_on_pieces (basis_sum D.coefficient (suc (length es)))
      (λ i h. basis_on_piece D.coefficient (suc (length es)) i more h ∙ ap (λ a. Z.mul a (piece i)) (ap E.of (D.none i h) ∙ of_nought F Z r E) ∙ nought_mul Z (piece i)))
      ∙ coordinate_nought F Z r E D.place (let h = D.place_below in omega arith))

  -- there are as many pieces as elements in the basis
  pub splitting_counts : length es ≡ r
  splitting_counts = equal (cases_lt r (length es)) (cases_lt (length es) r)
    where
      equal : (r < length es) ⊎ (length es ≤ r) → (length es < r) ⊎ (r ≤ length es) → length es ≡ r
      equal (inl h) k = absurd (too_many_by (dependent F L r (λ i k. E.coordinate (piece i) k)) h)
      equal (inr h) (inl k) = absurd (too_few_by (dependent F L (length es) (λ t i. value i t)) k)
      equal (inr h) (inr k) = omega arith
