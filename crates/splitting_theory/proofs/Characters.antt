-- The characters of a split algebra are the values by which its basis multiplies the pieces.
use Rattle.splitting_theory.proofs.Names.{◌≡◌, ℕ, Bool, true, false, List, [], ◌∷◌, refl, sym, ◌∙◌, ap, inl, inr, ◌≢◌, ap₂, CommRing, sum_list, nought_add, mul_nought, nought_mul, one_mul, mul_left_comm, add_mul, neg_add_self, sum_ext, sum_mul, sum_list_nil, sum_list_cons, Each, number, IsPiece, IsSplitting, Field, HasBasis, evaluate, IsCharacter, HasValues, Among}
use Rattle.splitting_theory.proofs.Coordinates.{of_nought, of_sum, of_number, evaluate_is, evaluate_add, evaluate_scale, evaluate_nought, evaluate_one, evaluate_product}

module _ {A : Type 0} (F : CommRing A) where
  pub difference : (x y : A) → F.add x (F.neg y) ≡ F.nought → x ≡ y
  difference x y e = sym (F.add_nought x) ∙ ap (λ a. F.add x a) (sym (neg_add_self F y)) ∙ sym (F.add_assoc x (F.neg y) y) ∙ ap (λ a. F.add a y) e ∙ nought_add F y

module _ {A B : Type 0} (F : CommRing A) (L : Field F) (Z : CommRing B) (r : ℕ) (E : HasBasis F Z r) where
  -- a multiple of what isn't nought is nought only by nought
  pub scale_cancel : (x : A) (e : B) → e ≢ Z.nought → Z.mul (E.of x) e ≡ Z.nought → x ≡ F.nought
  scale_cancel x e there h = cases (L.is_nought x) refl
    where
      cases : (b : Bool) → L.is_nought x ≡ b → x ≡ F.nought
      cases true k = L.passes x k
      cases false k =
          absurd (there (sym (one_mul Z e) ∙ ap (λ a. Z.mul a e) (sym E.of_one ∙ ap E.of (sym (L.mul_inverse x (L.fails x k)) ∙ F.mul_comm x (L.inverse x)) ∙ E.of_mul (L.inverse x) x)
          ∙ Z.mul_assoc (E.of (L.inverse x)) (E.of x) e ∙ ap (λ a. Z.mul (E.of (L.inverse x)) a) h ∙ mul_nought Z (E.of (L.inverse x))))

  pub scale_equal : (x y : A) (e : B) → e ≢ Z.nought → Z.mul (E.of x) e ≡ Z.mul (E.of y) e → x ≡ y
  scale_equal x y e there h =
      difference F x y (scale_cancel (F.add x (F.neg y)) e there
      (ap (λ a. Z.mul a e) (E.of_add x (F.neg y)) ∙ add_mul Z (E.of x) (E.of (F.neg y)) e ∙ ap (λ a. Z.add a (Z.mul (E.of (F.neg y)) e)) h
      ∙ sym (add_mul Z (E.of y) (E.of (F.neg y)) e) ∙ ap (λ a. Z.mul a e) (sym (E.of_add y (F.neg y)) ∙ ap E.of (F.add_neg y) ∙ of_nought F Z r E) ∙ nought_mul Z e))

  -- in the field
  pub mul_equal : (x y w : A) → w ≢ F.nought → F.mul x w ≡ F.mul y w → x ≡ y
  mul_equal x y w there h =
      sym (undo x) ∙ ap (λ a. F.mul a (L.inverse w)) h ∙ undo y
    where
      undo : (x : A) → F.mul (F.mul x w) (L.inverse w) ≡ x
      undo x = F.mul_assoc x w (L.inverse w) ∙ ap (λ a. F.mul x a) (L.mul_inverse w there) ∙ F.mul_one x

  -- every element multiplies e by its value
  pub multiplies : (e : B) (u : ℕ → A) → HasValues E e u → (z : B) → Z.mul z e ≡ Z.mul (E.of (evaluate E u z)) e
  multiplies e u h z =
      ap (λ a. Z.mul a e) (sym (E.spans z)) ∙ sum_mul Z r (λ t. Z.mul (E.of (E.coordinate z t)) (E.at t)) e
      ∙ sum_ext Z r (λ t. Z.mul (Z.mul (E.of (E.coordinate z t)) (E.at t)) e) (λ t. Z.mul (E.of (F.mul (E.coordinate z t) (u t))) e)
      (λ t k. Z.mul_assoc (E.of (E.coordinate z t)) (E.at t) e ∙ ap (λ a. Z.mul (E.of (E.coordinate z t)) a) (h t k) ∙ sym (Z.mul_assoc (E.of (E.coordinate z t)) (E.of (u t)) e)
      ∙ ap (λ a. Z.mul a e) (sym (E.of_mul (E.coordinate z t) (u t))))
      ∙ sym (sum_mul Z r (λ t. E.of (F.mul (E.coordinate z t) (u t))) e)
      ∙ ap (λ a. Z.mul a e) (sym (of_sum F Z r E r (λ t. F.mul (E.coordinate z t) (u t))) ∙ ap E.of (sym (evaluate_is F Z r E u z)))

  -- the values at what isn't nought are a character
  pub values_character : (e : B) (u : ℕ → A) → e ≢ Z.nought → HasValues E e u → IsCharacter E u
  values_character e u there h = record {
    one = scale_equal (u 0) F.one e there (sym (h 0 E.some) ∙ ap (λ a. Z.mul a e) (E.first ∙ sym E.of_one));
    product = λ i j i_below j_below. scale_equal (evaluate E u (Z.mul (E.at i) (E.at j))) (F.mul (u i) (u j)) e there
        (sym (multiplies e u h (Z.mul (E.at i) (E.at j))) ∙ Z.mul_assoc (E.at i) (E.at j) e ∙ ap (λ a. Z.mul (E.at i) a) (h j j_below) ∙ mul_left_comm Z (E.at i) (E.of (u j)) e
        ∙ ap (λ a. Z.mul (E.of (u j)) a) (h i i_below) ∙ mul_left_comm Z (E.of (u j)) (E.of (u i)) e ∙ sym (Z.mul_assoc (E.of (u i)) (E.of (u j)) e) ∙ ap (λ a. Z.mul a e) (sym (E.of_mul (u i) (u j))));
  }

  -- what a piece is multiplied by, where a character isn't nought at it, are the values of the character
  values_at : (q : ℕ) (u : ℕ → A) → IsCharacter E u → (e : B) → IsPiece Z q E.at r e → evaluate E u e ≢ F.nought → HasValues E e u
  values_at q u C e piece there t h =
      let served = piece.served t h in
      let v : A = number F served.value in
      let acts : Z.mul (E.at t) e ≡ Z.mul (E.of v) e = served.acts ∙ ap (λ a. Z.mul a e) (sym (of_number F Z r E served.value)) in
      let same : u t ≡ v = mul_equal (u t) v (evaluate E u e) there (sym (evaluate_product F Z r E u C t h e) ∙ ap (evaluate E u) acts ∙ evaluate_scale F Z r E u v e) in
      acts ∙ ap (λ a. Z.mul (E.of a) e) (sym same)

  some_piece : (q : ℕ) (u : ℕ → A) → IsCharacter E u → (es : List B) → Each (IsPiece Z q E.at r) es → evaluate E u (sum_list Z es) ≢ F.nought → Among (λ e. HasValues E e u) es
  some_piece q u C [] h there = absurd (there (ap (evaluate E u) (sum_list_nil Z) ∙ evaluate_nought F Z r E u))
  some_piece q u C (e ∷ es) h there = cases (λ k. some_piece q u C es h.1 k) (L.is_nought (evaluate E u e)) refl
    where
      cases : (evaluate E u (sum_list Z es) ≢ F.nought → Among (λ e. HasValues E e u) es) → (b : Bool) → L.is_nought (evaluate E u e) ≡ b → Among (λ e. HasValues E e u) (e ∷ es)
      cases later true k =
          inr (later (λ none. there (ap (evaluate E u) (sum_list_cons Z e es) ∙ evaluate_add F Z r E u e (sum_list Z es) ∙ ap₂ F.add (L.passes (evaluate E u e) k) none ∙ F.add_nought F.nought)))
      cases later false k = inl (values_at q u C e h.0 (L.fails (evaluate E u e) k))

  -- each character has the values of some piece
  pub character_listed : (q : ℕ) (u : ℕ → A) → IsCharacter E u → (es : List B) → IsSplitting Z q E.at r es → Among (λ e. HasValues E e u) es
  character_listed q u C es S =
      some_piece q u C es S.each (λ none. L.one_is_not_nought (sym (evaluate_one F Z r E u C) ∙ ap (evaluate E u) (sym S.whole) ∙ none))
