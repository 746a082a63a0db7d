-- The laws of the algebra of a twist, from those over abstract groups.
use Rattle.twisted.proofs.Names.{◌≡◌, ℕ, ◌+◌, ◌*◌, ◌/◌, ◌%◌, ◌<◌, true, Option, Some, None, get_or, refl, sym, ◌∙◌, ap, arith, ◌↔◌, eqb-true, is_some, div-add-mod, CommRing, Below, below_equal, element_of, Roots, RootOfUnity, twisted_convolution, total_below, convolution_at, convolution_assoc, conjugate, least_transporter, transporter_least, conjugate_by, TwistedSubgroup, size, IsTwist, kappa, is_regular, regular_representatives, rank, root, product_term, twisted_product, unit_vector, IsCentral, class_sum, combination}
use mathlib.Core.Path.{fun_ext}
use Rattle.algebra.specs.Totals.{equals}
use Rattle.twisted.proofs.SeparateRoots.{scaled_roots, scaled_roots_separate}
use Rattle.twisted.proofs.Carrying.{carry}
use Rattle.twisted.proofs.ConjugationPhases.{IsRegular, kappa_depends}
use Rattle.twisted.proofs.CentreLaws.{unit_at, IsCovariant, IsClassSum, central_carries, covariant_commutes, class_sum_carries, combination_carries, covariant_expands, coefficients_unique}
use Rattle.twisted.proofs.CentreLaws as centre
use Rattle.twisted.proofs.Translation.{places, place_group, phase_at, kappa_at, phases_cocycle, kappa_phase, carry_value, regular_of_test, some_place, some_root, regularity, transporters}
use Rattle.twisted.proofs.RegularClasses.{representative_place, regular_classes}

pub quotient_whole : (m n : ℕ) → m % n ≡ 0 → m ≡ m / n * n
quotient_whole m n e = let parts : n * (m / n) + m % n ≡ m = div-add-mod m n in omega arith

module _ {A : Type 0} (R : CommRing A) {m : ℕ} (U : RootOfUnity R m) (s : TwistedSubgroup) (twist : IsTwist s) (divides : m % s.modulus ≡ 0) where
  -- the roots with exponents modulo the modulus
  abbrev pub twist_roots : Roots R s.modulus
  twist_roots = scaled_roots R U s.modulus (m / s.modulus) (some_root s twist) (quotient_whole m s.modulus divides)

  -- an element by place, on the places as a type
  abbrev pub on_places : (ℕ → A) → Below (size s) → A
  on_places z x = z x.value

  pub product_on_places : (p r : ℕ → A) (x : Below (size s))
      → twisted_convolution R (places s twist) (place_group s twist) twist_roots (phase_at s twist) (on_places p) (on_places r) x ≡ twisted_product R U s p r x.value
  product_on_places p r x =
      convolution_at R (places s twist) (place_group s twist) twist_roots (phase_at s twist) (on_places p) (on_places r) x
      ∙ total_below R (size s) (some_place s twist) (product_term R U s p r x.value)

  -- what commutes with every u_y
  central_on_places : (z : ℕ → A) → IsCentral R U s z → centre.IsCentral R (places s twist) (place_group s twist) twist_roots (phase_at s twist) (on_places z)
  unfolding equals
  central_on_places z h = record {
    commutes = λ c v.
        product_on_places z (unit_vector R U s c.value) v ∙ h.commutes c.value v.value c.below v.below ∙ sym (product_on_places (unit_vector R U s c.value) z v);
  }

  pub central_from_places : (z : ℕ → A) → centre.IsCentral R (places s twist) (place_group s twist) twist_roots (phase_at s twist) (on_places z) → IsCentral R U s z
  unfolding equals
  central_from_places z h = record {
    commutes = λ y x p q.
        sym (product_on_places z (unit_vector R U s y) (element_of x q)) ∙ h.commutes (element_of y p) (element_of x q)
        ∙ product_on_places (unit_vector R U s y) z (element_of x q);
  }

  -- z(c x c^-1) = e(ka(c,x)) z(x)
  pub central_covariant : (z : ℕ → A) → IsCentral R U s z → IsCovariant R (place_group s twist) twist_roots (kappa_at s twist) (on_places z)
  central_covariant z h =
      central_carries R _ _ (some_root s twist) twist_roots _ _ (phases_cocycle s twist) (kappa_phase s twist) (on_places z) (central_on_places z h)

  pub covariant_central : (z : ℕ → A) → IsCovariant R (place_group s twist) twist_roots (kappa_at s twist) (on_places z) → IsCentral R U s z
  covariant_central z h =
      central_from_places z
      (covariant_commutes R (places s twist) _ (some_root s twist) twist_roots _ _ (phases_cocycle s twist) (kappa_phase s twist) (on_places z) h)

  -- the class sum of a regular place
  pub class_sum_is : (p : Below (size s)) → IsRegular (place_group s twist) s.modulus (phase_at s twist) p
      → IsClassSum R (place_group s twist) twist_roots (kappa_at s twist) p (on_places (class_sum R U s p.value))
  class_sum_is p regular = record {
    at_conjugates = λ c. there c (least_transporter s.group p.value (carry (place_group s twist) c p).value) refl;
    elsewhere = λ y none. absent y none (least_transporter s.group p.value y.value) refl;
  }
    where
      there : (c : Below (size s)) (o : Option ℕ) → least_transporter s.group p.value (carry (place_group s twist) c p).value ≡ o
          → class_sum R U s p.value (carry (place_group s twist) c p).value ≡ root R U s (kappa s c.value p.value)
      there c (Some d) e =
          let least = transporter_least s.group twist.group p.value (carry (place_group s twist) c p).value d e in
          let k : Below (size s) = element_of d least.below in
          rw e
          (twist_roots.root_same (kappa s d p.value) (kappa s c.value p.value)
          (kappa_depends _ _ _ _ (phases_cocycle s twist) (kappa_phase s twist) k c p regular (below_equal _ _ (carry_value s twist k p ∙ eqb-true _ _ least.passes))))
      there c None e =
          let found = conjugate_by s.group twist.group p.value (carry (place_group s twist) c p).value c.value c.below (sym (carry_value s twist c p)) in
          let none = ap is_some e in
          absurd cc

      absent : (y : Below (size s)) → ((c : Below (size s)) → carry (place_group s twist) c p ≡ y → ⊥) → (o : Option ℕ) → least_transporter s.group p.value y.value ≡ o
          → class_sum R U s p.value y.value ≡ R.nought
      absent y none (Some d) e =
          let least = transporter_least s.group twist.group p.value y.value d e in
          let k : Below (size s) = element_of d least.below in
          absurd (none k (below_equal _ _ (carry_value s twist k p ∙ eqb-true _ _ least.passes)))
      absent y none None e = rw e refl

  -- it commutes with every u_y
  pub class_sum_central : (p : ℕ) → p < size s → is_regular s p ≡ true → IsCentral R U s (class_sum R U s p)
  class_sum_central p below regular =
      let own = regular_of_test s twist (element_of p below) regular in
      covariant_central (class_sum R U s p)
      (class_sum_carries R (places s twist) _ (some_root s twist) twist_roots _ _ (phases_cocycle s twist) (kappa_phase s twist) (transporters s twist) _ _ own (class_sum_is _ own))

  -- it is e(ka(c,p)) at each conjugate
  pub class_sum_at_conjugates : (c p : ℕ) → c < size s → p < size s → is_regular s p ≡ true
      → class_sum R U s p (conjugate s.group c p) ≡ root R U s (kappa s c p)
  class_sum_at_conjugates c p c_below p_below regular =
      ap (class_sum R U s p) (sym (carry_value s twist (element_of c c_below) (element_of p p_below)))
      ∙ (class_sum_is (element_of p p_below) (regular_of_test s twist (element_of p p_below) regular)).at_conjugates (element_of c c_below)

  -- the class sums of the representatives
  abbrev pub sums_on_places : ℕ → Below (size s) → A
  sums_on_places i = on_places (class_sum R U s (get_or (regular_representatives s) i 0))

  sums_are : (i : ℕ) → i < rank s → IsClassSum R (place_group s twist) twist_roots (kappa_at s twist) (representative_place s twist i) (sums_on_places i)
  sums_are i below = class_sum_is (representative_place s twist i) ((regular_classes s twist).regular i below)

  pub combination_central : (f : ℕ → A) → IsCentral R U s (combination R U s f)
  combination_central f =
      covariant_central (combination R U s f)
      (combination_carries R (places s twist) _ (some_root s twist) twist_roots _ _ (phases_cocycle s twist) (kappa_phase s twist) (rank s) f sums_on_places
      (λ i below. class_sum_carries R (places s twist) _ (some_root s twist) twist_roots _ _ (phases_cocycle s twist) (kappa_phase s twist)
      (transporters s twist) _ _ ((regular_classes s twist).regular i below) (sums_are i below)))

  pub central_combination : (z : ℕ → A) → IsCentral R U s z → (x : ℕ) → x < size s
      → z x ≡ combination R U s (λ i. z (get_or (regular_representatives s) i 0)) x
  central_combination z h x below =
      covariant_expands R (places s twist) _ (some_root s twist) twist_roots _ _ (phases_cocycle s twist) (kappa_phase s twist)
      (rank s) (representative_place s twist) (regular_classes s twist) sums_on_places sums_are
      (scaled_roots_separate R U s.modulus (m / s.modulus) (some_root s twist) (quotient_whole m s.modulus divides)) (regularity s twist)
      (on_places z) (central_covariant z h) (element_of x below)

  pub combination_unique : (z f : ℕ → A) → ((x : ℕ) → x < size s → z x ≡ combination R U s f x) → (i : ℕ) → i < rank s
      → f i ≡ z (get_or (regular_representatives s) i 0)
  combination_unique z f e i below =
      coefficients_unique R (places s twist) _ (some_root s twist) twist_roots _ _ (phases_cocycle s twist) (kappa_phase s twist)
      (rank s) (representative_place s twist) (regular_classes s twist) sums_on_places sums_are
      (on_places z) f (λ y. e y.value y.below) i below

  pub central_exactly : (z : ℕ → A)
      → IsCentral R U s z ↔ ((c x : ℕ) → c < size s → x < size s → z (conjugate s.group c x) ≡ R.mul (root R U s (kappa s c x)) (z x))
  central_exactly z = (
    λ h c x p q. ap z (sym (carry_value s twist (element_of c p) (element_of x q))) ∙ (central_covariant z h).carries (element_of c p) (element_of x q),
    λ h. covariant_central z (record { carries = λ c x. ap z (carry_value s twist c x) ∙ h c.value x.value c.below x.below }),
  )

  pub product_associates : (p q r : ℕ → A) (x : ℕ) → x < size s
      → twisted_product R U s (twisted_product R U s p q) r x ≡ twisted_product R U s p (twisted_product R U s q r) x
  product_associates p q r x below =
      let y : Below (size s) = element_of x below in
      let times : (Below (size s) → A) → (Below (size s) → A) → Below (size s) → A = twisted_convolution R (places s twist) (place_group s twist) twist_roots (phase_at s twist) in
      sym (product_on_places (twisted_product R U s p q) r y)
      ∙ ap (λ u. times u (on_places r) y) (fun_ext (λ w. sym (product_on_places p q w)))
      ∙ convolution_assoc R (places s twist) _ twist_roots _ (phases_cocycle s twist) (on_places p) (on_places q) (on_places r) y
      ∙ ap (λ u. times (on_places p) u y) (fun_ext (λ w. product_on_places q r w))
      ∙ product_on_places p (twisted_product R U s q r) y
