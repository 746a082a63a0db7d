-- Each conductor has a modulus over 60: it is 1 modulo the conductor, and the cyclotomic polynomial has a root modulo it.
use Rattle.prime_field.proofs.Names.{◌≡◌, ◌≢◌, ℕ, ◌%◌, ◌<◌, true, Bool, Some, None, refl, ap, ◌∙◌, arith, nat_tests, ne_eqb, ltb-true, eqb-true, ◌==◌, ◌&&◌, not, nat_lt, is_some, if◌then◌else◌, list_all, first, and_true, least_passing, conductors, is_conductor, reductions, reduction_of, at_each_conductor, listed, cyclotomic_is, whole_modulo, reduced, value_at, is_root, moduli, is_modulus, modulus_fault, least_root, ServesConductor, some_value, modulus_bound}

-- no condition fails where all hold
no_fault : (q above k r : ℕ) → above < q → q < 65536 → is_modulus q ≡ true → k % q ≢ 0 → least_root q k ≡ Some r → modulus_fault q above k ≡ None
unfolding modulus_fault
no_fault q above k r over below listed apart found =
    let between : (nat_lt above q && nat_lt q 65536) ≡ true = grind (arith, nat_tests) in
    rw (between, listed, ne_eqb (k % q) 0 apart, found) refl

-- ---- a modulus for a conductor
has_root : ℕ → ℕ → Bool
has_root k m = is_some (first m (λ r. if is_root m (reduced m (listed k)) r then Some r else None))

serves : ℕ → ℕ → Bool
serves k m = is_modulus m && (nat_lt 60 m && ((m % k == 1) && (not (k % m == 0) && has_root k m)))

is_served : ℕ → Bool
is_served k = is_some (first 338 (λ m. if serves k m then Some m else None))

all_served : list_all (λ (entry : ℕ × ℕ). is_served entry.0) conductors ≡ true
unfolding is_served serves has_root first is_modulus value_at whole_modulo moduli conductors reductions reduction_of
all_served = refl

-- the root of the listed polynomial is one of Phi_K
found_root : (k m : ℕ) → is_conductor k ≡ true → has_root k m ≡ true → (r : ℕ) × (least_root m k ≡ Some r)
unfolding has_root least_root
found_root k m entry there =
    let found = some_value (first m (λ r. if is_root m (reduced m (listed k)) r then Some r else None)) there in
    (found.0, ap (λ p. first m (λ r. if is_root m (reduced m p) r then Some r else None)) (cyclotomic_is k entry) ∙ found.1)

serves_conductor : (k m : ℕ) → is_conductor k ≡ true → serves k m ≡ true → ServesConductor m k
unfolding serves
serves_conductor k m entry test =
    let modulus = and_true _ _ test in
    let over = and_true _ _ modulus.1 in
    let congruent = and_true _ _ over.1 in
    let rest = and_true _ _ congruent.1 in
    let root = found_root k m entry rest.1 in
    record {
      over = ltb-true 60 m over.0;
      congruent = eqb-true (m % k) 1 congruent.0;
      valid = λ above small.
          no_fault m above k root.0 (omega (arith, ltb-true 60 m over.0)) (omega (arith, modulus_bound m modulus.0)) modulus.0 (divides_not (k % m) rest.0) root.1;
    }
  where
    divides_not : (x : ℕ) → not (x == 0) ≡ true → x ≢ 0
    divides_not x test = grind (arith, nat_tests)

-- each conductor has a modulus over 60
pub conductor_modulus : (k : ℕ) → is_conductor k ≡ true → (q : ℕ) × ServesConductor q k
unfolding is_served
conductor_modulus k entry =
    let found = some_value _ (at_each_conductor is_served all_served k entry) in
    (found.0, serves_conductor k found.0 entry (least_passing 338 (serves k) found.0 found.1).passes)
