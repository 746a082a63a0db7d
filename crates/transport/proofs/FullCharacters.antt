-- Full characters as they are formed.
use Rattle.transport.proofs.Names.{◌≡◌, ℕ, ◌%◌, Bool, true, false, ◌==◌, Option, sym, ap, ◌∙◌, subst, IfSome, class_of, transporter_of, is_conductor, cyclotomic, value_product, value_nought, CyclotomicValue, cyclotomic_value, root, root_modulo, Cyc, carried, transport_phase, Formed, given, where_so, is_some, Forms, turned, SimplesOver, class_at, root_exponent, element_value, carried_value, full_character}
use Rattle.cyclotomic.specs.Fit.{value_fits}

module _ (k : ℕ) where
  -- where the test holds, what is formed is the value
  pub formed_where : (test : Bool) (u : Formed k) (answer : Option (Cyc k)) → test ≡ true → Forms u answer → Forms (where_so k test u) answer
  formed_where test u answer holds forms = subst (λ b. Forms (where_so k b u) answer) (sym holds) forms

  pub formed_elsewhere : (test : Bool) (u : Formed k) (answer : Option (Cyc k)) → test ≡ false → Forms (given k value_nought) answer → Forms (where_so k test u) answer
  formed_elsewhere test u answer fails forms = subst (λ b. Forms (where_so k b u) answer) (sym fails) forms

  -- a multiple by a root
  pub formed_turned : is_conductor k ≡ true → (v exponent : ℕ) (u : Cyc k) (w : CyclotomicValue k) (answer : Option (Cyc k)) → exponent ≡ v % k
      → cyclotomic_value k u.coefficients ≡ w
      → is_some answer ≡ value_fits (value_product (cyclotomic k) (root k exponent) (cyclotomic_value k u.coefficients))
      → IfSome answer (λ z. cyclotomic_value k z.coefficients ≡ value_product (cyclotomic k) (root k exponent) (cyclotomic_value k u.coefficients))
      → Forms (turned k v (given k w)) answer
  formed_turned entry v exponent u w answer reduced same there stands =
      let product : value_product (cyclotomic k) (root k exponent) (cyclotomic_value k u.coefficients) ≡ value_product (cyclotomic k) (root k v) w =
      ap (λ e. value_product (cyclotomic k) (root k e) (cyclotomic_value k u.coefficients)) reduced
      ∙ ap (λ z. value_product (cyclotomic k) z (cyclotomic_value k u.coefficients)) (sym (root_modulo k entry v)) ∙ ap (value_product (cyclotomic k) (root k v)) same in
      record {
        there = there ∙ ap value_fits product;
        stands = subst (λ y. IfSome answer (λ (z : Cyc k). cyclotomic_value k z.coefficients ≡ y)) product stands;
      }

  -- the full character at an element of the class
  pub character_formed : is_conductor k ≡ true → (s : SimplesOver) (i g x exponent : ℕ) (u : Cyc k) (answer : Option (Cyc k))
      → (class_of s.cocycle.group g == class_at k s i) ≡ true
      → exponent ≡ root_exponent k s.cocycle (transport_phase s.cocycle g x (transporter_of s.cocycle.group g)) % k
      → cyclotomic_value k u.coefficients ≡ element_value k s i (carried s.cocycle.group x (transporter_of s.cocycle.group g))
      → is_some answer ≡ value_fits (value_product (cyclotomic k) (root k exponent) (cyclotomic_value k u.coefficients))
      → IfSome answer (λ z. cyclotomic_value k z.coefficients ≡ value_product (cyclotomic k) (root k exponent) (cyclotomic_value k u.coefficients))
      → Forms (full_character k s i g x) answer
  character_formed entry s i g x exponent u answer in_class reduced same there stands =
      formed_where (class_of s.cocycle.group g == class_at k s i) (carried_value k s i g x (transporter_of s.cocycle.group g)) answer in_class
      (formed_turned entry (root_exponent k s.cocycle (transport_phase s.cocycle g x (transporter_of s.cocycle.group g))) exponent u
      (element_value k s i (carried s.cocycle.group x (transporter_of s.cocycle.group g))) answer reduced same there stands)
