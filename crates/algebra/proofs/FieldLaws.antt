-- Laws that follow from those of a field.
use Rattle.algebra.proofs.Names.{◌≡◌, ◌≢◌, ◌⊎◌, inl, inr, Bool, true, false, refl, sym, ◌∙◌, ap, CommRing, Field}
use Rattle.algebra.proofs.RingLaws.{mul_nought, one_mul}

module _ {A : Type 0} (R : CommRing A) where
  -- x - y is nought only for equal x and y
  pub difference_nought : (x y : A) → R.add x (R.neg y) ≡ R.nought → x ≡ y
  difference_nought x y h =
      sym (R.add_nought x) ∙ ap (R.add x) (sym (R.add_neg y) ∙ R.add_comm y (R.neg y)) ∙ sym (R.add_assoc x (R.neg y) y)
      ∙ ap (λ z. R.add z y) h ∙ R.add_comm R.nought y ∙ R.add_nought y

module _ {A : Type 0} (R : CommRing A) (F : Field R) where
  -- an element is nought or not
  pub decide : (x : A) → (x ≡ R.nought) ⊎ (x ≢ R.nought)
  decide x = by (F.is_nought x) refl
    where
      by : (b : Bool) → F.is_nought x ≡ b → (x ≡ R.nought) ⊎ (x ≢ R.nought)
      by true e = inl (F.passes x e)
      by false e = inr (F.fails x e)

  pub test_passes : (x : A) → x ≡ R.nought → F.is_nought x ≡ true
  test_passes x h = by (F.is_nought x) refl
    where
      by : (b : Bool) → F.is_nought x ≡ b → F.is_nought x ≡ true
      by true e = e
      by false e = absurd (F.fails x e h)

  pub test_fails : (x : A) → x ≢ R.nought → F.is_nought x ≡ false
  test_fails x h = by (F.is_nought x) refl
    where
      by : (b : Bool) → F.is_nought x ≡ b → F.is_nought x ≡ false
      by true e = absurd (h (F.passes x e))
      by false e = e

  -- a product is nought only where a factor is
  pub no_zero_divisor : (x y : A) → x ≢ R.nought → R.mul x y ≡ R.nought → y ≡ R.nought
  no_zero_divisor x y d h =
      sym (one_mul R y) ∙ ap (λ z. R.mul z y) (sym (F.mul_inverse x d)) ∙ ap (λ z. R.mul z y) (R.mul_comm x (F.inverse x))
      ∙ R.mul_assoc (F.inverse x) x y ∙ ap (R.mul (F.inverse x)) h ∙ mul_nought R (F.inverse x)

  -- a factor that isn't nought changes nothing of the test
  pub test_product : (x y : A) → x ≢ R.nought → F.is_nought (R.mul x y) ≡ F.is_nought y
  test_product x y d = by (F.is_nought y) refl
    where
      by : (b : Bool) → F.is_nought y ≡ b → F.is_nought (R.mul x y) ≡ F.is_nought y
      by true e = test_passes (R.mul x y) (ap (R.mul x) (F.passes y e) ∙ mul_nought R x) ∙ sym e
      by false e = test_fails (R.mul x y) (λ h. F.fails y e (no_zero_divisor x y d h)) ∙ sym e
