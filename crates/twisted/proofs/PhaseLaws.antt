-- The laws of conjugation phases and of regular places, from those over abstract groups.
use Rattle.twisted.proofs.Names.{◌≡◌, ℕ, ◌+◌, ◌%◌, ◌<◌, true, sym, ◌∙◌, ap, mod-lt, mod-eq_of_lt, Below, below_equal, same_equal, product, same_test, TwistedSubgroup, size, IsTwist, element_of}
use Rattle.classes.specs.Conjugacy.{conjugate}
use Rattle.twisted.specs.Regular.{kappa, is_regular}
use Rattle.twisted.proofs.Carrying.{carry, carry_back}
use Rattle.twisted.proofs.ConjugationPhases.{kappa_composes, kappa_depends, regular_of_conjugate}
use Rattle.twisted.proofs.Translation.{place_group, phases_cocycle, kappa_phase, regular_of_test, test_of_regular, some_root}

module _ (s : TwistedSubgroup) (twist : IsTwist s) where
  pub kappa_below : (c x : ℕ) → kappa s c x < s.modulus
  unfolding kappa
  kappa_below c x = mod-lt _ (some_root s twist)

  pub kappa_of_product : (d c x : ℕ) → d < size s → c < size s → x < size s
      → kappa s (product s.group d c) x ≡ (kappa s d (conjugate s.group c x) + kappa s c x) % s.modulus
  unfolding carry conjugate
  kappa_of_product d c x p q r =
      sym (mod-eq_of_lt (kappa_below (product s.group d c) x))
      ∙ (kappa_composes _ _ _ _ (phases_cocycle s twist) (kappa_phase s twist) (element_of d p) (element_of c q) (element_of x r)).same

  moves : (k y : Below (size s)) → is_regular s y.value ≡ true → is_regular s (carry (place_group s twist) k y).value ≡ true
  moves k y e = test_of_regular s twist _ (regular_of_conjugate _ _ _ _ (phases_cocycle s twist) (kappa_phase s twist) k y (regular_of_test s twist y e))

  pub regular_on_classes : (c x : ℕ) → c < size s → x < size s → is_regular s (conjugate s.group c x) ≡ is_regular s x
  unfolding carry conjugate
  regular_on_classes c x p q =
      let P = place_group s twist in
      let k : Below (size s) = element_of c p in
      let y : Below (size s) = element_of x q in
      same_test _ _
      (λ e. ap (λ (z : Below (size s)). is_regular s z.value) (sym (carry_back P k y)) ∙ moves (P.inv k) (carry P k y) e)
      (moves k y)

  pub kappa_of_conjugate : (c d x : ℕ) → c < size s → d < size s → x < size s → is_regular s x ≡ true
      → conjugate s.group c x ≡ conjugate s.group d x → kappa s c x ≡ kappa s d x
  unfolding carry conjugate
  kappa_of_conjugate c d x p q r regular same =
      same_equal (kappa_below c x) (kappa_below d x)
      (kappa_depends _ _ _ _ (phases_cocycle s twist) (kappa_phase s twist) (element_of c p) (element_of d q) (element_of x r)
      (regular_of_test s twist (element_of x r) regular) (below_equal _ _ same))
