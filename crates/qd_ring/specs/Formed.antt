-- Values of the cyclotomic ring as they are formed, step by step, and the rules by which the steps fit (this project's rules).
use Rattle.std.specs.Prelude.{◌≡◌, ℕ, pos, Bool, true, not, ◌&&◌, [], ◌∷◌, if◌then◌else◌, Option, is_some, IfSome}
use Rattle.algebra.specs.Sums.{sum_below}
use Rattle.cyclotomic.specs.Cyclotomic.{cyclotomic}
use Rattle.cyclotomic.specs.CyclotomicRing.{CyclotomicValue, cyclotomic_ring, cyclotomic_value, root, conjugate}
use Rattle.cyclotomic.specs.Ring.{value_product, value_nought}
use Rattle.cyclotomic.specs.Fit.{value_fits, product_fits}
use Rattle.qd_ring.specs.Fit.{sum_overflows}
use Rattle.qd_ring.specs.CyclotomicFit.{cyclotomic_fit}
use Rattle.qd_ring.specs.declared.cyc.Cyc.{Cyc}

-- a value, and whether each of the steps that form it fits
pub record Formed (k : ℕ) : Type 0 where
  pub fits : Bool
  pub value : CyclotomicValue k

module _ (k : ℕ) where
  -- a value that is there from the beginning
  abbrev pub given : CyclotomicValue k → Formed k
  given u = record { fits = true; value = u }

  -- a whole number
  abbrev pub whole : ℕ → CyclotomicValue k
  whole n = cyclotomic_value k (pos n ∷ [])

  -- its conjugate
  abbrev pub conjugated : Formed k → Formed k
  conjugated u = record { fits = u.fits && value_fits (conjugate k u.value); value = conjugate k u.value }

  -- the product of two
  abbrev pub multiplied : Formed k → Formed k → Formed k
  multiplied u v = record {
    fits = (u.fits && v.fits) && product_fits u.value v.value;
    value = value_product (cyclotomic k) u.value v.value;
  }

  -- its multiple by the root with exponent v modulo K
  abbrev pub turned : ℕ → Formed k → Formed k
  turned v u = record {
    fits = u.fits && value_fits (value_product (cyclotomic k) (root k v) u.value);
    value = value_product (cyclotomic k) (root k v) u.value;
  }

  -- the listed sum of n terms
  abbrev pub listed : ℕ → (ℕ → Formed k) → Formed k
  listed n term = record {
    fits = not (sum_overflows (cyclotomic_ring k) (cyclotomic_fit k) n (λ i. (term i).fits) (λ i. (term i).value));
    value = sum_below (cyclotomic_ring k) n (λ i. (term i).value);
  }

  -- it where the test holds, else 0
  abbrev pub where_so : Bool → Formed k → Formed k
  where_so test u = if test then u else given value_nought

-- an answer of forming a value: there exactly where each step fits, and then that value
pub record Forms {k : ℕ} (formed : Formed k) (answer : Option (Cyc k)) : Type 0 where
  pub there : is_some answer ≡ formed.fits
  pub stands : IfSome answer (λ u. cyclotomic_value k u.coefficients ≡ formed.value)
