-- What holds of each listed modulus, by tests that are computed.
use Rattle.std.proofs.Common.{◌≡◌, ◌≢◌, ℕ, zero, suc, ◌*◌, ◌%◌, ◌<◌, ◌≤◌, List, [], ◌∷◌, Bool, true, false, Option, Some, None, refl, sym, ap, ◌∙◌, arith, inl, inr, eqb-true}
use Rattle.std.proofs.lemmas.Bool.{cases_eq, ne_eqb}
use Rattle.std.proofs.Math.Nat.{mod-lt, mod-eq_of_lt, zero-mod, zero-mul, one-mul, mul-zero}
use Rattle.std.proofs.lemmas.Nat.{mul-mod_first, mul-mod_second}
use Rattle.std.specs.Prelude.{◌==◌, ◌||◌, nat_lt, nat_le, is_some, if◌then◌else◌}
use Rattle.std.specs.List.{list_all, list_any}
use borrow.Author.Tests.{ltb-true, leb-true}
use Rattle.scan.specs.First.{first, all_below}
use Rattle.scan.proofs.Places.{first_some, first_none, first-ext}
use Rattle.cyclotomic.proofs.Tests.{and_left, and_right, all_below_means}
use Rattle.prime_field.specs.Moduli.{moduli, is_modulus}
use Rattle.prime_field.specs.Inverses.{inverse_modulo}

-- ---- each modulus of the list
all_listed : (test : ℕ → Bool) (q : ℕ) (ms : List ℕ) → list_all test ms ≡ true → list_any (λ m. m == q) ms ≡ true → test q ≡ true
all_listed test q [] all found = cc
all_listed test q (m ∷ rest) all found = elim (cases_eq m q) [
  | inl here ↦ ap test (sym here) ∙ and_left (test m) (list_all test rest) all
  | inr apart ↦ all_listed test q rest (and_right (test m) (list_all test rest) all)
      (sym (ap (λ b. b || list_any (λ n. n == q) rest) (ne_eqb m q apart)) ∙ found)
]

pub at_each_modulus : (test : ℕ → Bool) → list_all test moduli ≡ true → (q : ℕ) → is_modulus q ≡ true → test q ≡ true
unfolding is_modulus
at_each_modulus test all q found = all_listed test q moduli all found

-- ---- a modulus is over 1, and at most 337
all_over_one : list_all (λ q. nat_lt 1 q) moduli ≡ true
unfolding moduli
all_over_one = refl

all_bounded : list_all (λ q. nat_le q 337) moduli ≡ true
unfolding moduli
all_bounded = refl

-- ---- what isn't 0 has an inverse
has_inverse : ℕ → ℕ → Bool
has_inverse q a = (a == 0) || is_some (inverse_modulo q a)

all_have_inverses : list_all (λ q. all_below q (has_inverse q)) moduli ≡ true
unfolding has_inverse inverse_modulo first all_below moduli
all_have_inverses = refl

-- ---- a^q = a
-- a^n modulo q
unfoldable pub power_modulo : ℕ → ℕ → ℕ → ℕ
power_modulo q a zero = 1 % q
power_modulo q a (suc n) = power_modulo q a n * a % q

is_fixed : ℕ → ℕ → Bool
is_fixed q a = power_modulo q a q == a

all_fixed : list_all (λ q. all_below q (is_fixed q)) moduli ≡ true
unfolding is_fixed power_modulo all_below moduli
all_fixed = refl

-- ---- what is found
pub some_value : {A : Type 0} (o : Option A) → is_some o ≡ true → (x : A) × (o ≡ Some x)
some_value (Some x) e = (x, refl)
some_value None e = absurd cc

pub where_found : (test : Bool) (x y : ℕ) → (if test then Some x else None) ≡ Some y → (test ≡ true) × (x ≡ y)
where_found true x y e = (refl, some_same e)
  where
    some_same : {x y : ℕ} → Some x ≡ Some y → x ≡ y
    some_same e = cc
where_found false x y e = absurd cc

-- ---- inverses
-- the inverse is below q, and its product with a is 1 modulo q
pub inverse_means : (q a b : ℕ) → inverse_modulo q a ≡ Some b → (b < q) × ((a * b) % q ≡ 1)
unfolding inverse_modulo
inverse_means q a b found =
    let f = first_some q (λ c. if (a * c) % q == 1 then Some c else None) b found in
    let here = where_found ((a * f.place) % q == 1) f.place b f.here in
    let is_one : (a * f.place) % q ≡ 1 = eqb-true ((a * f.place) % q) 1 here.0 in
    (omega (arith, f.below, here.1), sym (ap (λ c. (a * c) % q) here.1) ∙ is_one)

-- it depends on a modulo q alone
pub inverse_mod : (q a : ℕ) → inverse_modulo q (a % q) ≡ inverse_modulo q a
unfolding inverse_modulo
inverse_mod q a =
    first-ext q (λ b. if (a % q * b) % q == 1 then Some b else None) (λ b. if (a * b) % q == 1 then Some b else None)
    (λ b below. ap (λ v. if v == 1 then Some b else None) (mul-mod_first a b q))

module _ (q : ℕ) (listed : is_modulus q ≡ true) where
  pub modulus_over_one : 1 < q
  modulus_over_one = ltb-true 1 q (at_each_modulus (λ m. nat_lt 1 m) all_over_one q listed)

  pub modulus_bound : q ≤ 337
  modulus_bound = leb-true q 337 (at_each_modulus (λ m. nat_le m 337) all_bounded q listed)

  pub modulus_positive : 0 < q
  modulus_positive = omega (arith, modulus_over_one)

  -- what isn't 0 modulo q has an inverse
  pub inverse_there : (a : ℕ) → a % q ≢ 0 → (b : ℕ) × (inverse_modulo q a ≡ Some b)
  unfolding has_inverse
  inverse_there a apart =
      let r = a % q in
      let each : has_inverse q r ≡ true =
      all_below_means q (has_inverse q) (at_each_modulus (λ m. all_below m (has_inverse m)) all_have_inverses q listed) r (mod-lt a modulus_positive) in
      let there : is_some (inverse_modulo q r) ≡ true = sym (ap (λ t. t || is_some (inverse_modulo q r)) (ne_eqb r 0 apart)) ∙ each in
      let found = some_value (inverse_modulo q r) there in
      (found.0, sym (inverse_mod q a) ∙ found.1)

  -- what is 0 modulo q has none
  pub inverse_absent : (a : ℕ) → a % q ≡ 0 → inverse_modulo q a ≡ None
  unfolding inverse_modulo
  inverse_absent a e = first_none q (λ b. if (a * b) % q == 1 then Some b else None) (λ b below. none_at b)
    where
      product_is : (b : ℕ) → (a * b) % q ≡ 0
      product_is b = sym (mul-mod_first a b q) ∙ ap (λ r. (r * b) % q) e ∙ ap (λ n. n % q) (zero-mul b) ∙ zero-mod q

      none_at : (b : ℕ) → (if (a * b) % q == 1 then Some b else None) ≡ None
      none_at b = ap (λ v. if v == 1 then Some b else None) (product_is b)

  -- a product is 0 modulo q only where a factor is
  pub product_of_zero : (a b : ℕ) → (a * b) % q ≡ 0 → a % q ≢ 0 → b % q ≡ 0
  product_of_zero a b e apart =
      let there = inverse_there a apart in
      let c = there.0 in
      let one = (inverse_means q a c there.1).1 in
      let whole : (a * c) * b ≡ c * (a * b) = omega arith in
      ap (λ n. n % q) (sym (one-mul b)) ∙ ap (λ n. (n * b) % q) (sym one)
      ∙ mul-mod_first (a * c) b q ∙ ap (λ n. n % q) whole
      ∙ sym (mul-mod_second c (a * b) q) ∙ ap (λ n. (c * n) % q) e ∙ ap (λ n. n % q) (mul-zero c) ∙ zero-mod q

  -- one number below q alone is an inverse of a
  pub inverse_unique : (a b c : ℕ) → b < q → c < q → (a * b) % q ≡ 1 → (a * c) % q ≡ 1 → b ≡ c
  inverse_unique a b c b_below c_below b_one c_one =
      sym (mod-eq_of_lt b_below) ∙ sym (at_other b c c_one) ∙ ap (λ n. n % q) (shuffle b c) ∙ at_other c b b_one ∙ mod-eq_of_lt c_below
    where
      shuffle : (b c : ℕ) → (a * c) * b ≡ (a * b) * c
      shuffle b c = omega arith

      at_other : (b c : ℕ) → (a * c) % q ≡ 1 → ((a * c) * b) % q ≡ b % q
      at_other b c one = sym (mul-mod_first (a * c) b q) ∙ ap (λ n. (n * b) % q) one ∙ ap (λ n. n % q) (one-mul b)

  -- the power q of a number below q is that number (Fermat 1640)
  pub power_fixed : (a : ℕ) → a < q → power_modulo q a q ≡ a
  unfolding is_fixed
  power_fixed a below =
      eqb-true (power_modulo q a q) a
      (all_below_means q (is_fixed q) (at_each_modulus (λ m. all_below m (is_fixed m)) all_fixed q listed) a below)
