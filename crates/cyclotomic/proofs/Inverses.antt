-- Images under numbers prime to K respect the ring, and images under numbers inverse to each other undo each other.
use Rattle.cyclotomic.proofs.Names.{◌≡◌, ℕ, zero, suc, ◌+◌, ◌-◌, ◌*◌, ◌%◌, ◌<◌, List, true, refl, sym, ap, ◌∙◌, subst, arith, eqb-true, ◌==◌, dvd-mod_iff, one-dvd, dvd-mul_right, dvd-mul_right_of_dvd, mod-eq-zero_of_dvd, ℤ, list_all, IsGcd, cyclotomic, conductors, is_conductor, value_product, value_one, value_of, at_power, CyclotomicValue, root, galois_image, conjugate}
use Prim.Native.Nat.{◌∣◌}
use Rattle.std.proofs.Math.Numerals.{sub-one}
use Rattle.cyclotomic.proofs.Tests.{at_each_conductor}
use Rattle.cyclotomic.proofs.Checks.{conductor_positive}
use Rattle.cyclotomic.proofs.Images.{root-sum, root-mod, root-zero, image-mod, image-one_power, image-of, image-one, image-product, image-root, image-image}
use Rattle.cyclotomic.proofs.Fields.{cyclotomic_monic, cyclotomic_period, cyclotomic_divides}

whole_multiple : (k v : ℕ) → 0 < k → v + (k - 1) * v ≡ k * v
whole_multiple zero v h = absurd (omega arith)
whole_multiple (suc k) v h = omega (arith, ap (λ j. j * v) (sub-one (suc k)))

-- a number with an inverse modulo k is prime to k
pub prime_of_inverse : (k t s : ℕ) → (t * s) % k ≡ 1 → IsGcd t k 1
prime_of_inverse k t s e = (
  one-dvd t,
  one-dvd k,
  λ d divides_t divides_k. subst (λ j. d ∣ j) e ((dvd-mod_iff d divides_k).1 (dvd-mul_right_of_dvd d divides_t s)),
)

-- ---- K - 1 is its own inverse
all_own_inverses : list_all (λ (entry : ℕ × ℕ). ((entry.0 - 1) * (entry.0 - 1)) % entry.0 == 1) conductors ≡ true
unfolding conductors
all_own_inverses = refl

module _ (k : ℕ) (entry : is_conductor k ≡ true) where
  pub conjugation_inverse : ((k - 1) * (k - 1)) % k ≡ 1
  conjugation_inverse = eqb-true (((k - 1) * (k - 1)) % k) 1 (at_each_conductor (λ j. ((j - 1) * (j - 1)) % j == 1) all_own_inverses k entry)

  pub conjugation_prime : IsGcd (k - 1) k 1
  conjugation_prime = prime_of_inverse k (k - 1) (k - 1) conjugation_inverse

  module _ (t : ℕ) (prime : IsGcd t k 1) where
    pub galois_one : galois_image k t (value_one (cyclotomic k)) ≡ value_one (cyclotomic k)
    galois_one = image-one (cyclotomic k) (cyclotomic_monic k entry) t (cyclotomic_divides k entry t prime)

    pub galois_product : (u v : CyclotomicValue k) → galois_image k t (value_product (cyclotomic k) u v) ≡ value_product (cyclotomic k) (galois_image k t u) (galois_image k t v)
    galois_product = image-product (cyclotomic k) (cyclotomic_monic k entry) t (cyclotomic_divides k entry t prime)

    pub galois_root : (v : ℕ) → galois_image k t (root k v) ≡ root k (t * v)
    galois_root = image-root (cyclotomic k) (cyclotomic_monic k entry) t (cyclotomic_divides k entry t prime)

    pub galois_value : (p : List ℤ) → galois_image k t (value_of (cyclotomic k) p) ≡ value_of (cyclotomic k) (at_power t p)
    galois_value = image-of (cyclotomic k) (cyclotomic_monic k entry) t (cyclotomic_divides k entry t prime)

    pub galois_galois : (s : ℕ) (u : CyclotomicValue k) → galois_image k t (galois_image k s u) ≡ galois_image k (t * s) u
    galois_galois = image-image (cyclotomic k) (cyclotomic_monic k entry) t (cyclotomic_divides k entry t prime)

  pub galois_modulo : (t : ℕ) (u : CyclotomicValue k) → galois_image k t u ≡ galois_image k (t % k) u
  galois_modulo = image-mod (cyclotomic k) k (cyclotomic_period k entry) (conductor_positive k entry)

  -- the image under an inverse number undoes the image
  pub galois_inverse : (t s : ℕ) → (t * s) % k ≡ 1 → (u : CyclotomicValue k) → galois_image k t (galois_image k s u) ≡ u
  galois_inverse t s e u =
      galois_galois t (prime_of_inverse k t s e) s u ∙ galois_modulo (t * s) u
      ∙ ap (λ j. galois_image k j u) e ∙ image-one_power (cyclotomic k) u

  pub conjugate_conjugate : (u : CyclotomicValue k) → conjugate k (conjugate k u) ≡ u
  conjugate_conjugate = galois_inverse (k - 1) (k - 1) conjugation_inverse

  pub root_modulo : (v : ℕ) → root k v ≡ root k (v % k)
  root_modulo = root-mod (cyclotomic k) k (cyclotomic_period k entry) (conductor_positive k entry)

  -- a root times its conjugate is 1
  pub root_conjugate : (v : ℕ) → value_product (cyclotomic k) (root k v) (conjugate k (root k v)) ≡ value_one (cyclotomic k)
  root_conjugate v =
      let m = cyclotomic k in
      let whole : (v + (k - 1) * v) % k ≡ 0 =
      ap (λ j. j % k) (whole_multiple k v (conductor_positive k entry)) ∙ mod-eq-zero_of_dvd k (dvd-mul_right k v) in
      ap (value_product m (root k v)) (galois_root (k - 1) conjugation_prime v)
      ∙ sym (root-sum m v ((k - 1) * v))
      ∙ root_modulo (v + (k - 1) * v)
      ∙ ap (root k) whole
      ∙ root-zero m
