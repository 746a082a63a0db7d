-- The ring of whole-number polynomials modulo a cyclotomic polynomial (textbook).
use Rattle.std.specs.Prelude.{ℕ, ◌-◌, ℤ, List}
use Rattle.algebra.specs.Structures.{CommRing}
use Rattle.cyclotomic.specs.Division.{degree}
use Rattle.cyclotomic.specs.Cyclotomic.{cyclotomic}
use Rattle.cyclotomic.specs.Ring.{Value, value_sum, value_negative, value_nought, value_of, value_one, value_product, value_root, value_image}
use Rattle.cyclotomic.specs.Laws.Values.{sum_assoc, sum_comm, sum_nought, sum_negative, product_assoc, product_comm, product_one, product_sum}

-- the ring of values modulo m
abbrev pub remainder_ring : (m : List ℤ) → CommRing (Value (degree m))
remainder_ring m = record {
  add = value_sum;
  nought = value_nought;
  neg = value_negative;
  mul = value_product m;
  one = value_one m;
  add_assoc = sum_assoc m;
  add_comm = sum_comm m;
  add_nought = sum_nought m;
  add_neg = sum_negative m;
  mul_assoc = product_assoc m;
  mul_comm = product_comm m;
  mul_one = product_one m;
  mul_add = product_sum m;
}

-- lists of phi(K) whole numbers, the polynomials modulo Phi_K
abbrev pub CyclotomicValue : ℕ → Type 0
CyclotomicValue k = Value (degree (cyclotomic k))

-- the ring R_K
abbrev pub cyclotomic_ring : (k : ℕ) → CommRing (CyclotomicValue k)
cyclotomic_ring k = remainder_ring (cyclotomic k)

-- the value for which a polynomial stands
abbrev pub cyclotomic_value : (k : ℕ) → List ℤ → CyclotomicValue k
cyclotomic_value k p = value_of (cyclotomic k) p

-- the root of unity with exponent v modulo K: the remainder of x^v
abbrev pub root : (k : ℕ) → ℕ → CyclotomicValue k
root k v = value_root (cyclotomic k) v

-- the Galois image under t: x goes to x^t
abbrev pub galois_image : (k : ℕ) → ℕ → CyclotomicValue k → CyclotomicValue k
galois_image k t u = value_image (cyclotomic k) t u

-- the complex conjugate: x goes to x^(K - 1)
abbrev pub conjugate : (k : ℕ) → CyclotomicValue k → CyclotomicValue k
conjugate k u = galois_image k (k - 1) u
