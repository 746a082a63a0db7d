-- Values of polynomials modulo q, coefficient by coefficient from the last, and how many roots there are.
use Rattle.prime_field.proofs.Names.{◌≡◌, ◌≢◌, ℕ, zero, suc, ◌+◌, ◌-◌, ◌*◌, ◌%◌, ◌<◌, ◌≤◌, true, List, [], ◌∷◌, length, get_or, drop, drop-cons, sym, ◌∙◌, ap, subst, arith, eqb-true, mod-lt, mod-add-mod, mod-eq_of_lt, zero-mod, mul-le-mul_right, mul-mod_second, eq-eqb, map, ◌==◌, unwrap_or, length-map, Below, below_equal, Field, value, AllNought, value_nil, value_cons, passing_below, passing_below-ext, is_modulus, inverse_modulo, field, field_residue, value_at, reduced, ℤ, polynomial_value, polynomial_at, is_root, HasCoefficient, modulus_positive, modulus_bound, modulus_over_one, inverse_there, inverse_means, nought_value, value_nought}
use Rattle.prime_field.proofs.PolynomialRoots.{fewer_roots}
use Rattle.prime_field.proofs.ResidueSums.{inner_remainders, same_residue}

pub modulus_small : (q : ℕ) → is_modulus q ≡ true → q < 65536
modulus_small q listed = omega (arith, modulus_bound q listed)

pub value_at_below : (q x : ℕ) (p : List ℕ) → 0 < q → value_at q x p < q
unfolding value_at
value_at_below q x [] h = h
value_at_below q x (a ∷ p) h = mod-lt (a + x * value_at q x p) h

-- the product of two numbers below q, and one more
pub product_small : (q a x y : ℕ) → q < 65536 → a < q → x < q → y < q → a + x * y ≤ 4294901760
product_small q a x y small a_below x_below y_below =
    let first : x * y ≤ 65535 * y = mul-le-mul_right y (omega arith) in
    omega (arith, first)

pub value_step : (q x i v : ℕ) (p : List ℕ) → 0 < i → i ≤ length p → v ≡ value_at q x (drop i p) → (get_or p (i - 1) 0 % q + x * v) % q ≡ value_at q x (drop (i - 1) p)
unfolding value_at
value_step q x i v p positive within e =
    let whole : suc (i - 1) ≡ i = omega arith in
    let less : i - 1 < length p = omega arith in
    mod-add-mod (get_or p (i - 1) 0) q (x * v)
    ∙ ap (λ w. (get_or p (i - 1) 0 + x * w) % q) (e ∙ ap (λ n. value_at q x (drop n p)) (sym whole))
    ∙ sym (ap (value_at q x) (drop-cons p (i - 1) 0 less))

-- ---- residues modulo a listed prime are a field
module _ (q : ℕ) (listed : is_modulus q ≡ true) where
  -- the number below q that is the inverse of a, or 0 where there is none
  abbrev inverse_or_zero : ℕ → ℕ
  inverse_or_zero a = unwrap_or (inverse_modulo q a) 0

  pub inverse_product : (x : Below q) → x ≢ (field q listed).nought → (field q listed).mul x (field_residue q listed (inverse_or_zero x.value)) ≡ (field q listed).one
  inverse_product x h =
      let there = inverse_there q listed x.value (λ e. h (value_nought q listed x (sym (mod-eq_of_lt x.below) ∙ e))) in
      let one = (inverse_means q x.value there.0 there.1).1 in
      below_equal _ _ (rw there.1 (mul-mod_second x.value there.0 q ∙ one ∙ sym (mod-eq_of_lt (modulus_over_one q listed))))

  pub one_apart : (field q listed).one ≢ (field q listed).nought
  one_apart e =
      let none : 1 % q ≡ 0 = nought_value q listed (field q listed).one e in
      let one : 1 % q ≡ 1 = mod-eq_of_lt (modulus_over_one q listed) in
      absurd (omega arith)

  abbrev pub residue_field : Field (field q listed)
  residue_field = record {
    inverse = λ x. field_residue q listed (inverse_or_zero x.value);
    is_nought = λ x. x.value == 0;
    passes = λ x e. value_nought q listed x (eqb-true x.value 0 e);
    fails = λ x e h. (let zero : x.value == 0 ≡ true = eq-eqb x.value 0 (nought_value q listed x h) in cc);
    mul_inverse = inverse_product;
    one_is_not_nought = one_apart;
  }

  -- the value of a polynomial with whole coefficients is that of the coefficients modulo q
  pub polynomial_value_is : (r : ℕ) (p : List ℤ) → (polynomial_at (field q listed) (field_residue q listed r) p).value ≡ value_at q r (reduced q p)
  polynomial_value_is r p = polynomial_value q (modulus_positive q listed) r p

  -- residues of different numbers below q are different
  pub residues_apart : (i j : ℕ) → i < j → j < q → field_residue q listed i ≢ field_residue q listed j
  residues_apart i j less below e = let same = same_residue q listed i j (omega arith) below e in omega arith

  pub value_of_residues : (x : ℕ) (p : List ℕ) → (value (field q listed) (map (field_residue q listed) p) (field_residue q listed x)).value ≡ value_at q x p
  unfolding value_at
  value_of_residues x [] = ap (λ y. y.value) (value_nil (field q listed) (field_residue q listed x)) ∙ zero-mod q
  value_of_residues x (a ∷ p) =
      ap (λ y. y.value) (value_cons (field q listed) (field_residue q listed a) (map (field_residue q listed) p) (field_residue q listed x))
      ∙ simp (inner_remainders, value_of_residues x p)

  pub coefficient_nought : (p : List ℕ) → AllNought (field q listed) (map (field_residue q listed) p) → (k : ℕ) → k < length p → get_or p k 0 % q ≡ 0
  unfolding AllNought
  coefficient_nought [] h k less = absurd (omega arith)
  coefficient_nought (a ∷ p) h zero less = nought_value q listed (field_residue q listed a) h.0
  coefficient_nought (a ∷ p) h (suc k) less = coefficient_nought p h.1 k (omega arith)

  -- the roots below n are the residues at which the value is nought
  pub roots_are : (n : ℕ) (p : List ℕ)
      → passing_below n (is_root q p) ≡ passing_below n (λ i. residue_field.is_nought (value (field q listed) (map (field_residue q listed) p) (field_residue q listed i)))
  roots_are n p =
      passing_below-ext n (is_root q p) (λ i. residue_field.is_nought (value (field q listed) (map (field_residue q listed) p) (field_residue q listed i)))
      (λ i h. ap (λ v. v == 0) (sym (value_of_residues i p)))

  -- a polynomial with a coefficient that isn't 0 modulo q has fewer roots than coefficients
  pub few_roots : (n : ℕ) (p : List ℕ) → HasCoefficient q p → n ≤ q → length (passing_below n (is_root q p)) < length p
  few_roots n p some within =
      let few = fewer_roots (field q listed) residue_field n (field_residue q listed) (λ i j h l. residues_apart i j h (omega arith))
      (map (field_residue q listed) p) (λ h. some.2 (coefficient_nought p h some.0 some.1)) in
      rw (roots_are n p) (omega (arith, few, length-map p (field_residue q listed)))

-- so that the roots of a polynomial of at most 61 coefficients are at most 60
pub roots_fit : (q p x : ℕ) (coefficients f items : List ℕ) → is_modulus q ≡ true → q ≡ p → coefficients ≡ f → HasCoefficient p f → length coefficients ≤ 61 → x ≤ q
    → items ≡ passing_below x (is_root q coefficients) → length items < 61
roots_fit q p x coefficients f items listed same alike some few within e =
    let there : HasCoefficient q coefficients = subst (λ k. HasCoefficient k coefficients) (sym same) (subst (HasCoefficient p) (sym alike) some) in
    let less : length (passing_below x (is_root q coefficients)) < length coefficients = few_roots q listed x coefficients there within in
    rw e (omega (arith, less))
