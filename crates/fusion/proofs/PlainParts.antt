-- How products and root multiples are formed.
use Rattle.fusion.proofs.Names.{◌≡◌, ◌%◌, ◌&&◌, ℕ, true, Option, Some, None, sym, ◌∙◌, ap, ap₂, subst, is_some, IfSome, is_conductor, cyclotomic, cyclotomic_value, root, value_product, root_modulo, Formed, Forms, multiplied, value_fits, product_fits, turned, Answers}
use Rattle.qd_ring.specs.declared.cyc.Cyc.{Cyc}

module _ (k : ℕ) where
  -- the product of two values
  pub multiplied_forms : (u v : Formed k) (a b : Cyc k) (r : Option (Cyc k)) → Forms u (Some a) → Forms v (Some b)
      → is_some r ≡ product_fits (cyclotomic_value k a.coefficients) (cyclotomic_value k b.coefficients)
      → IfSome r (λ c. cyclotomic_value k c.coefficients ≡ value_product (cyclotomic k) (cyclotomic_value k a.coefficients) (cyclotomic_value k b.coefficients))
      → Forms (multiplied k u v) r
  multiplied_forms u v a b r left right fits is = record {
    there = fits ∙ ap₂ (λ x y. product_fits x y) left.stands right.stands ∙ ap₂ (λ x y. (x && y) && product_fits u.value v.value) left.there right.there;
    stands = subst (λ y. IfSome r (λ (c : Cyc k). cyclotomic_value k c.coefficients ≡ y)) (ap₂ (value_product (cyclotomic k)) left.stands right.stands) is;
  }

  -- the multiple by a root whose exponent was reduced
  pub turned_forms : is_conductor k ≡ true → (v e : ℕ) (u : Formed k) (a : Cyc k) (r : Option (Cyc k)) → e ≡ v % k → Forms u (Some a)
      → is_some r ≡ value_fits (value_product (cyclotomic k) (root k e) (cyclotomic_value k a.coefficients))
      → IfSome r (λ c. cyclotomic_value k c.coefficients ≡ value_product (cyclotomic k) (root k e) (cyclotomic_value k a.coefficients))
      → Forms (turned k v u) r
  turned_forms entry v e u a r reduced formed fits is =
      let same = ap₂ (value_product (cyclotomic k)) (ap (root k) reduced ∙ sym (root_modulo k entry v)) formed.stands in
      record {
        there = fits ∙ ap value_fits same ∙ ap (λ x. x && value_fits (value_product (cyclotomic k) (root k v) u.value)) formed.there;
        stands = subst (λ y. IfSome r (λ (c : Cyc k). cyclotomic_value k c.coefficients ≡ y)) same is;
      }

  -- that of a value that isn't there
  pub turned_missing : (v : ℕ) (u : Formed k) → Forms u None → Forms (turned k v u) None
  turned_missing v u missing = record {
    there = ap (λ x. x && value_fits (value_product (cyclotomic k) (root k v) u.value)) missing.there;
    stands = tt;
  }

  -- an answer that is there exactly where each step fits
  pub answers_formed : (u : Formed k) (r : Option (Cyc k)) → Forms u r → Answers k u r
  answers_formed u (Some c) forms = record { missing = λ e. absurd cc; stands = forms.stands }
  answers_formed u None forms = record { missing = λ e. sym forms.there; stands = tt }

  -- a value that was found
  pub answers_found : (u : Formed k) (c : Cyc k) → cyclotomic_value k c.coefficients ≡ u.value → Answers k u (Some c)
  answers_found u c is = record { missing = λ e. absurd cc; stands = is }
