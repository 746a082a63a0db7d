-- The lists of the values at the pieces of the centre are those of all central characters.
use Rattle.centre_algebra.proofs.Names.{◌≡◌, ◌≢◌, ℕ, suc, ◌+◌, ◌*◌, ◌/◌, ◌%◌, ◌<◌, ◌≤◌, true, false, List, [], ◌∷◌, length, get_or, sym, ◌∙◌, ap, subst, arith, inl, inr, ◌⊎◌, eqb-true, eqb, cases_lt, cases_eq, eq-eqb, fun_ext, ap₂, CommRing, sum_below, multiple, Below, below_equal, RootOfUnity, sum_ext, product, identity_of, TwistedSubgroup, size, IsTwist, rank, regular_representatives, twisted_product, HasCharacteristic, residues_central_powers, Each, IsCentralCharacter, IsCharacterList, IsBefore, regular_sum, linear_value}
use Rattle.std.proofs.Math.Nat.{div-add-mod, mod-eq_of_lt, mul-mod_right, mul_assoc, mul-one}
use Rattle.scan.specs.First.{all_below}
use Rattle.scan.proofs.Places.{all_below-at, all_below-all}
use Rattle.orders.specs.Order.{exponent_of}
use Rattle.prime_field.specs.declared.mod_ring.ModRing.{ModRing}
use Rattle.prime_field.specs.Moduli.{is_modulus}
use Rattle.prime_field.specs.Field.{field, field_residue}
use Rattle.prime_field.specs.ResidueLists.{AreBelow}
use Rattle.prime_field.specs.Laws.Moduli.{modulus_positive, modulus_over_one}
use Rattle.prime_field.specs.Laws.Residues.{multiple_value}
use Rattle.prime_field.specs.Laws.Field.{value_nought, nought_value, multiple_cancels, field_unit}
use Rattle.prime_field.proofs.PolynomialValues.{residue_field}
use Rattle.centre_powers.specs.CentralPowers.{unit_period}
use Rattle.splitting_theory.specs.Splitting.{IsFixed, ZeroTest, number, IsPiece, Precedes, IsSplitting, pieces}
use Rattle.splitting_theory.specs.Algebras.{HasBasis, evaluate, IsCharacter, HasValues, Among}
use Rattle.splitting_theory.proofs.Pieces.{pieces_split}
use Rattle.splitting_theory.proofs.Coordinates.{of_number, evaluate_is}
use Rattle.splitting_theory.proofs.Characters.{scale_equal, values_character, character_listed}
use Rattle.splitting_theory.proofs.Counting.{splitting_counts}
use Rattle.centre_algebra.specs.Laws.{AreCentralCharacters, CentreSplits}
use Rattle.centre_algebra.proofs.CentreRing.{spread, spread_at, spread_below, Centre, centre_ring, centre_basis, basis_at, basis_product, product_at, scales, centre_fixed}
use Rattle.centre_algebra.proofs.Numbers.{tabled, length-tabled, tabled_at, lists_equal, before_at, Zipped, zipped_each, zipped_pairwise, zipped_length}

-- ---- the field

module _ (q : ℕ) (listed : is_modulus q ≡ true) where
  pub residues_characteristic : HasCharacteristic (field q listed) q
  residues_characteristic = record {
    vanishes = λ x. value_nought q listed (multiple (field q listed) q x) (multiple_value q (modulus_positive q listed) q x ∙ mul-mod_right q x.value);
    cancels = λ k x from below e. multiple_cancels q listed k (λ none. absurd (let same : k ≡ 0 = sym (mod-eq_of_lt below) ∙ none in omega arith)) x e;
  }

  one_value : (field q listed).one.value ≡ 1
  one_value = mod-eq_of_lt (modulus_over_one q listed)

  -- the number v is the residue of v
  pub number_residue : (v : ℕ) → number (field q listed) v ≡ field_residue q listed v
  number_residue v = below_equal _ _ (multiple_value q (modulus_positive q listed) v (field q listed).one ∙ ap (λ n. (v * n) % q) one_value ∙ ap (λ n. n % q) (mul-one v))

whole_part : (a b : ℕ) → a % b ≡ 0 → a ≡ b * (a / b)
whole_part a b e = let parts : b * (a / b) + a % b ≡ a = div-add-mod a b in omega arith

module _ (ring : ModRing) (s : TwistedSubgroup) (twist : IsTwist s) (over : size s < ring.q) (period : ring.conductor % unit_period s ≡ 0) where
  -- the modulus of the twist divides the conductor
  pub divides : ring.conductor % s.modulus ≡ 0
  divides =
      ap (λ a. a % s.modulus) (whole_part ring.conductor (unit_period s) period ∙ mul_assoc s.modulus (exponent_of s.group.order (product s.group) (identity_of s.group)) (ring.conductor / unit_period s))
      ∙ mul-mod_right s.modulus (exponent_of s.group.order (product s.group) (identity_of s.group) * (ring.conductor / unit_period s))

  abbrev pub R : CommRing (Below ring.q)
  R = field ring.q ring.listed

  abbrev pub U : RootOfUnity R ring.conductor
  U = field_unit ring.q ring.listed ring.conductor ring.root ring.least ring.entry ring.apart

  abbrev pub C : CommRing (Centre R U s twist divides)
  C = centre_ring R U s twist divides

  abbrev pub E : HasBasis R C (rank s)
  E = centre_basis R U s twist divides

  pub fixed : IsFixed C ring.q
  fixed =
      centre_fixed R U s twist divides ring.q (modulus_over_one ring.q ring.listed) (residue_field ring.q ring.listed).one_is_not_nought (residues_characteristic ring.q ring.listed)
      (residues_central_powers ring.q ring.listed ring.conductor ring.root ring.least ring.entry ring.apart s twist over period)

  -- the numbers by which the class sums multiply e
  pub record AreNumbers (e : Centre R U s twist divides) (values : List ℕ) : Type 0 where
    pub count : length values ≡ rank s
    pub below : AreBelow ring.q values
    pub acts : (t : ℕ) → t < rank s → C.mul (basis_at R U s twist divides t) e ≡ C.mul (number C (get_or values t 0)) e

  abbrev residue_at : List ℕ → ℕ → Below ring.q
  residue_at values i = field_residue ring.q ring.listed (get_or values i 0)

  has_values : (e : Centre R U s twist divides) (values : List ℕ) → AreNumbers e values → HasValues E e (residue_at values)
  has_values e values h t below =
      h.acts t below ∙ ap (λ z. C.mul z e) (sym (of_number R C (rank s) E (get_or values t 0)) ∙ ap E.of (number_residue ring.q ring.listed (get_or values t 0)))

  -- the value of a linear map at a product of two class sums
  value_is : (u : ℕ → Below ring.q) (i j : ℕ) → i < rank s → j < rank s
      → evaluate E u (C.mul (E.at i) (E.at j)) ≡ linear_value R U s u (twisted_product R U s (regular_sum R U s i) (regular_sum R U s j))
  value_is u i j i_below j_below =
      evaluate_is R C (rank s) E u (C.mul (E.at i) (E.at j))
      ∙ sum_ext R (rank s) (λ k. R.mul (E.coordinate (C.mul (E.at i) (E.at j)) k) (u k)) (λ k. R.mul (twisted_product R U s (regular_sum R U s i) (regular_sum R U s j) (get_or (regular_representatives s) k 0)) (u k))
      (λ k h. ap (λ a. R.mul a (u k)) (spread_below R (rank s) (C.mul (E.at i) (E.at j)) k h ∙ basis_product R U s twist divides i j i_below j_below (record { value = k; below = h })))

  to_central : (u : ℕ → Below ring.q) → IsCharacter E u → IsCentralCharacter R U s u
  to_central u h = record { one = h.one; products = λ i j i_below j_below. sym (value_is u i j i_below j_below) ∙ h.product i j i_below j_below }

  from_central : (u : ℕ → Below ring.q) → IsCentralCharacter R U s u → IsCharacter E u
  from_central u h = record { one = h.one; product = λ i j i_below j_below. value_is u i j i_below j_below ∙ h.products i j i_below j_below }

  piece_character : (e : Centre R U s twist divides) (values : List ℕ) → IsPiece C ring.q E.at (rank s) e → AreNumbers e values → IsCharacterList ring s values
  piece_character e values piece h = record {
    count = h.count;
    below = h.below;
    character = to_central (residue_at values) (values_character R (residue_field ring.q ring.listed) C (rank s) E e (residue_at values) piece.there (has_values e values h));
  }

  -- numbers below q with one residue
  residues_apart : (v w : ℕ) → v < ring.q → w < ring.q → field_residue ring.q ring.listed v ≡ field_residue ring.q ring.listed w → v ≡ w
  residues_apart v w v_below w_below e = sym (mod-eq_of_lt v_below) ∙ ap (λ (x : Below ring.q). x.value) e ∙ mod-eq_of_lt w_below

  -- numbers below q that multiply alike what isn't nought
  numbers_equal : (e : Centre R U s twist divides) (v w : ℕ) → e ≢ C.nought → v < ring.q → w < ring.q → C.mul (number C v) e ≡ C.mul (number C w) e → v ≡ w
  numbers_equal e v w there v_below w_below h =
      residues_apart v w v_below w_below
      (sym (number_residue ring.q ring.listed v)
      ∙ scale_equal R (residue_field ring.q ring.listed) C (rank s) E (number R v) (number R w) e there
      (ap (λ z. C.mul z e) (of_number R C (rank s) E v) ∙ h ∙ sym (ap (λ z. C.mul z e) (of_number R C (rank s) E w)))
      ∙ number_residue ring.q ring.listed w)

  same_values : (e : Centre R U s twist divides) (values other : List ℕ) → e ≢ C.nought → AreNumbers e values → IsCharacterList ring s other → HasValues E e (residue_at other) → values ≡ other
  same_values e values other there h k same =
      lists_equal values other (h.count ∙ sym k.count)
      (λ i below. let small : i < rank s = (let c = h.count in omega arith) in
      residues_apart (get_or values i 0) (get_or other i 0) (h.below i below) (k.below i (let c = k.count in omega arith))
      (scale_equal R (residue_field ring.q ring.listed) C (rank s) E (residue_at values i) (residue_at other i) e there (sym (has_values e values h i small) ∙ same i small)))

  find : (other : List ℕ) → IsCharacterList ring s other → (es : List (Centre R U s twist divides)) (lists : List (List ℕ)) → Each (IsPiece C ring.q E.at (rank s)) es → Zipped AreNumbers es lists
      → Among (λ e. HasValues E e (residue_at other)) es → (i : ℕ) × (i < length lists) × (get_or lists i other ≡ other)
  find other k [] lists p z among = absurd among
  find other k (e ∷ es) [] p z among = absurd z
  find other k (e ∷ es) (values ∷ lists) p z (inl same) = (0, omega arith, same_values e values other p.0.there z.0 k same)
  find other k (e ∷ es) (values ∷ lists) p z (inr among) =
      let later = find other k es lists p.1 z.1 among in (suc later.0, (let h = later.1 in omega arith), later.2)

  in_order : (e f : Centre R U s twist divides) (xs ys : List ℕ) → IsPiece C ring.q E.at (rank s) e → IsPiece C ring.q E.at (rank s) f → Precedes C ring.q E.at (rank s) e f → AreNumbers e xs → AreNumbers f ys → IsBefore xs ys
  in_order e f xs ys left right pair h k =
      before_at pair.place xs ys (let b = pair.place_below in let c = h.count in omega arith) (let b = pair.place_below in let c = k.count in omega arith)
      (λ j below. (let small : j < rank s = (let b = pair.place_below in omega arith) in
      let alike = pair.before j below in
      numbers_equal e (get_or xs j 0) alike.value left.there (h.below j (let c = h.count in omega arith)) alike.below (sym (h.acts j small) ∙ alike.left)
      ∙ sym (numbers_equal f (get_or ys j 0) alike.value right.there (k.below j (let c = k.count in omega arith)) alike.below (sym (k.acts j small) ∙ alike.right))))
      (let low : get_or xs pair.place 0 ≡ pair.here.low = numbers_equal e (get_or xs pair.place 0) pair.here.low left.there (h.below pair.place (let b = pair.place_below in let c = h.count in omega arith)) (let a = pair.here.less in let b = pair.here.below in omega arith) (sym (h.acts pair.place pair.place_below) ∙ pair.here.left) in
      let high : get_or ys pair.place 0 ≡ pair.here.high = numbers_equal f (get_or ys pair.place 0) pair.here.high right.there (k.below pair.place (let b = pair.place_below in let c = k.count in omega arith)) pair.here.below (sym (k.acts pair.place pair.place_below) ∙ pair.here.right) in
      let less = pair.here.less in omega arith)

  -- the lists of the numbers at the pieces are those of all central characters
  pub lists_characters : (es : List (Centre R U s twist divides)) (lists : List (List ℕ)) → IsSplitting C ring.q E.at (rank s) es → Zipped AreNumbers es lists → AreCentralCharacters ring s lists
  lists_characters es lists S z = record {
    each = zipped_each AreNumbers (IsPiece C ring.q E.at (rank s)) (IsCharacterList ring s) piece_character es lists z S.each;
    every = λ other k. find other k es lists S.each z
        (character_listed R (residue_field ring.q ring.listed) C (rank s) E ring.q (residue_at other) (from_central (residue_at other) k.character) es S);
    ascending = zipped_pairwise AreNumbers (Precedes C ring.q E.at (rank s)) IsBefore (IsPiece C ring.q E.at (rank s)) in_order_of es lists z S.each S.order;
    count = sym (zipped_length AreNumbers es lists z) ∙ splitting_counts R (residue_field ring.q ring.listed) C (rank s) E ring.q es S;
  }
    where
      in_order_of : (e f : Centre R U s twist divides) (xs ys : List ℕ) → IsPiece C ring.q E.at (rank s) e → IsPiece C ring.q E.at (rank s) f → Precedes C ring.q E.at (rank s) e f → AreNumbers e xs → AreNumbers f ys → IsBefore xs ys
      in_order_of e f xs ys left right pair h k = in_order e f xs ys left right pair h k

  -- ---- such lists there are

  number_by : (e : Centre R U s twist divides) → IsPiece C ring.q E.at (rank s) e → (t : ℕ) → (t < rank s) ⊎ (rank s ≤ t) → ℕ
  number_by e piece t (inl h) = (piece.served t h).value
  number_by e piece t (inr h) = 0

  number_of_by : (e : Centre R U s twist divides) (piece : IsPiece C ring.q E.at (rank s) e) (t : ℕ) (c : (t < rank s) ⊎ (rank s ≤ t)) → t < rank s
      → (number_by e piece t c < ring.q) × (C.mul (E.at t) e ≡ C.mul (number C (number_by e piece t c)) e)
  unfolding number_by
  number_of_by e piece t (inl h) below = ((piece.served t h).below, (piece.served t h).acts)
  number_of_by e piece t (inr h) below = absurd (omega arith)

  numbers_of : (e : Centre R U s twist divides) → IsPiece C ring.q E.at (rank s) e → List ℕ
  numbers_of e piece = tabled (rank s) (λ t. number_by e piece t (cases_lt t (rank s)))

  numbers_are : (e : Centre R U s twist divides) (piece : IsPiece C ring.q E.at (rank s) e) → AreNumbers e (numbers_of e piece)
  unfolding numbers_of
  numbers_are e piece = record {
    count = length-tabled (rank s) (λ t. number_by e piece t (cases_lt t (rank s)));
    below = λ t h. let small : t < rank s = (let l = length-tabled (rank s) (λ t. number_by e piece t (cases_lt t (rank s))) in omega arith) in
        subst (λ v. v < ring.q) (sym (tabled_at (rank s) (λ t. number_by e piece t (cases_lt t (rank s))) t small)) (number_of_by e piece t (cases_lt t (rank s)) small).0;
    acts = λ t small. (number_of_by e piece t (cases_lt t (rank s)) small).1 ∙ ap (λ v. C.mul (number C v) e) (sym (tabled_at (rank s) (λ t. number_by e piece t (cases_lt t (rank s))) t small));
  }

  lists_of_pieces : (es : List (Centre R U s twist divides)) → Each (IsPiece C ring.q E.at (rank s)) es → (lists : List (List ℕ)) × Zipped AreNumbers es lists
  lists_of_pieces [] h = ([], tt)
  lists_of_pieces (e ∷ es) h = let later = lists_of_pieces es h.1 in (numbers_of e h.0 ∷ later.0, (numbers_are e h.0, later.1))

  -- a test of being nought
  pub nought_test : ZeroTest C
  nought_test = record {
    is_nought = λ c. all_below (rank s) (λ k. eqb (spread R (rank s) c k).value 0);
    passes = λ c e. fun_ext (λ k. sym (spread_at R (rank s) c k) ∙ value_nought ring.q ring.listed (spread R (rank s) c k.value) (eqb-true (spread R (rank s) c k.value).value 0 (all_below-at (rank s) k.value (λ k. eqb (spread R (rank s) c k).value 0) e k.below)));
    fails = λ c e h. absurd (let t : true ≡ false = sym (all_below-all (rank s) (λ k. eqb (spread R (rank s) c k).value 0)
        (λ i below. eq-eqb (spread R (rank s) c i).value 0 (nought_value ring.q ring.listed (spread R (rank s) c i) (spread_below R (rank s) c i below ∙ ap (λ (z : Centre R U s twist divides). z (record { value = i; below = below })) h)))) ∙ e in cc);
  }

  pub splits : (lists : List (List ℕ)) × AreCentralCharacters ring s lists
  splits =
      let es = pieces C nought_test ring.q E.at (rank s) in
      let S = pieces_split C nought_test ring.q fixed E.at (rank s) in
      let found = lists_of_pieces es S.each in
      (found.0, lists_characters es found.0 S found.1)

pub centre_splits : (ring : ModRing) → CentreSplits ring
centre_splits ring s twist over period = splits ring s twist over period

-- ---- the centre by numbers

module _ (ring : ModRing) (s : TwistedSubgroup) (twist : IsTwist s) (over : size s < ring.q) (period : ring.conductor % unit_period s ≡ 0) where
  abbrev F : CommRing (Below ring.q)
  F = R ring s twist over period

  abbrev D : CommRing (Centre F (U ring s twist over period) s twist (divides ring s twist over period))
  D = C ring s twist over period

  abbrev B : HasBasis F D (rank s)
  B = E ring s twist over period

  -- a number of the centre multiplies each number
  pub number_at : (v : ℕ) (x : Centre F (U ring s twist over period) s twist (divides ring s twist over period)) (k : Below (rank s)) → D.mul (number D v) x k ≡ F.mul (field_residue ring.q ring.listed v) (x k)
  number_at v x k =
      ap (λ y. D.mul y x k) (sym (of_number F D (rank s) B v) ∙ ap B.of (number_residue ring.q ring.listed v))
      ∙ ap (λ (z : Centre F (U ring s twist over period) s twist (divides ring s twist over period)). z k) (scales F (U ring s twist over period) s twist (divides ring s twist over period) (field_residue ring.q ring.listed v) x)

  -- a class sum times the element with the numbers e, by the products of class sums at the representatives
  pub image_at : (t : ℕ) → t < rank s → (e : List ℕ) (k : Below (rank s)) → D.mul (B.at t) (λ j. field_residue ring.q ring.listed (get_or e j.value 0)) k
      ≡ sum_below F (rank s) (λ j. F.mul (field_residue ring.q ring.listed (get_or e j 0))
      (twisted_product F (U ring s twist over period) s (regular_sum F (U ring s twist over period) s t) (regular_sum F (U ring s twist over period) s j) (get_or (regular_representatives s) k.value 0)))
  image_at t below e k =
      product_at F (U ring s twist over period) s twist (divides ring s twist over period) t (λ j. field_residue ring.q ring.listed (get_or e j.value 0)) k
      ∙ sum_ext F (rank s) (λ j. F.mul (spread F (rank s) (λ i. field_residue ring.q ring.listed (get_or e i.value 0)) j) (D.mul (B.at t) (B.at j) k))
      (λ j. F.mul (field_residue ring.q ring.listed (get_or e j 0))
      (twisted_product F (U ring s twist over period) s (regular_sum F (U ring s twist over period) s t) (regular_sum F (U ring s twist over period) s j) (get_or (regular_representatives s) k.value 0)))
      (λ j h. ap₂ F.mul (spread_below F (rank s) (λ i. field_residue ring.q ring.listed (get_or e i.value 0)) j h) (basis_product F (U ring s twist over period) s twist (divides ring s twist over period) t j below h k))
