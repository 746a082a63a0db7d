-- A polynomial over a field has fewer roots than coefficients.
use Rattle.prime_field.proofs.Names.{◌≡◌, ◌≢◌, ℕ, zero, suc, ◌<◌, Bool, true, false, List, [], ◌∷◌, length, length-append, add-one, refl, sym, ◌∙◌, ap, arith, CommRing, Field, value, AllNought, quotient, add_left_comm, difference_nought, test_product, value_cons, length_quotient, division, value_constant, quotient_nought, passing_below, passing_below-zero, passing_below-passes, passing_below-fails, passing_below-ext}

module _ {A : Type 0} (R : CommRing A) (F : Field R) where
  -- at points x other than a root a, the polynomial is nought where its quotient is
  pub same_roots : (c : A) (f : List A) (a x : A) → value R (c ∷ f) a ≡ R.nought → x ≢ a → F.is_nought (value R (c ∷ f) x) ≡ F.is_nought (value R (quotient R f a) x)
  same_roots c f a x root other =
      let d = R.add x (R.neg a) in
      let g = value R (quotient R f a) x in
      let split : value R (c ∷ f) x ≡ R.mul d g =
      value_cons R c f x ∙ ap (R.add c) (division R f a x) ∙ add_left_comm R c (R.mul d g) (R.mul a (value R f a))
      ∙ ap (R.add (R.mul d g)) (sym (value_cons R c f a) ∙ root) ∙ R.add_nought (R.mul d g) in
      ap F.is_nought split ∙ test_product R F d g (λ h. other (difference_nought R x a h))

  -- a polynomial that isn't nought is nought at fewer of n different points than it has coefficients
  pub fewer_roots : (n : ℕ) (at : ℕ → A) → ((i j : ℕ) → i < j → j < n → at i ≢ at j) → (f : List A) → (AllNought R f → ⊥)
      → length (passing_below n (λ i. F.is_nought (value R f (at i)))) < length f
  unfolding AllNought
  fewer_roots n at distinct [] some = absurd (some tt)
  fewer_roots zero at distinct (c ∷ f) some = rw (passing_below-zero (λ i. F.is_nought (value R (c ∷ f) (at i)))) (omega arith)
  fewer_roots (suc n) at distinct (c ∷ f) some =
      by (F.is_nought (value R (c ∷ f) (at n))) refl (λ g h. fewer_roots n at (λ i j h k. distinct i j h (omega arith)) g h)
    where
      test : ℕ → Bool
      test i = F.is_nought (value R (c ∷ f) (at i))

      by : (b : Bool) → test n ≡ b → ((g : List A) → (AllNought R g → ⊥) → length (passing_below n (λ i. F.is_nought (value R g (at i)))) < length g)
          → length (passing_below (suc n) test) < length (c ∷ f)
      by false e few =
          rw (← add-one n, passing_below-fails n test e) (few (c ∷ f) some)
      by true e few =
          let root : value R (c ∷ f) (at n) ≡ R.nought = F.passes (value R (c ∷ f) (at n)) e in
          let g = quotient R f (at n) in
          let rest : AllNought R g → ⊥ = λ h. some (sym (value_constant R f (at n) c (quotient_nought R f (at n) h)) ∙ root, quotient_nought R f (at n) h) in
          let less : length (passing_below n (λ i. F.is_nought (value R g (at i)))) < length g = few g rest in
          let same : passing_below n test ≡ passing_below n (λ i. F.is_nought (value R g (at i))) =
          passing_below-ext n test (λ i. F.is_nought (value R g (at i))) (λ i h. same_roots c f (at n) (at i) root (distinct i n h (omega arith))) in
          rw (← add-one n, passing_below-passes n test e, same)
          (omega (arith, length-append (passing_below n (λ i. F.is_nought (value R g (at i)))) (n ∷ []), length_quotient R f (at n)))
