-- Whole numbers as values of the cyclotomic ring.
use Rattle.transport.proofs.Names.{◌≡◌, ℕ, zero, suc, ◌+◌, ◌-◌, ◌*◌, ◌<◌, true, sym, ap, ap₂, ◌∙◌, arith, CommRing, sum_below, multiple, sum_zero, sum_suc, multiple_zero, multiple_is_mul, is_conductor, cyclotomic, value_one, value_nought, CyclotomicValue, cyclotomic_ring, conjugate, whole, conjugation, multiple_add, multiple_multiple, multiple_map, whole_apart, sum_numbers}
use Rattle.algebra.proofs.RingLaws.{add_fixed}
use Rattle.algebra.proofs.InvolutionLaws.{bar_one}
use Rattle.transport.proofs.DoubleSimples.{whole_multiple}
use Rattle.transport.proofs.GoodTables.{torsion_free}

module _ (k : ℕ) where
  abbrev R : CommRing (CyclotomicValue k)
  R = cyclotomic_ring k

  abbrev one : CyclotomicValue k
  one = value_one (cyclotomic k)

  pub whole_zero : whole k 0 ≡ value_nought
  whole_zero = whole_multiple k 0 ∙ multiple_zero R one

  pub whole_sum : (a b : ℕ) → whole k (a + b) ≡ R.add (whole k a) (whole k b)
  whole_sum a b = whole_multiple k (a + b) ∙ multiple_add R a b one ∙ sym (ap₂ R.add (whole_multiple k a) (whole_multiple k b))

  -- a product with a whole number is so many copies
  pub times_whole : (a : ℕ) (u : CyclotomicValue k) → R.mul (whole k a) u ≡ multiple R a u
  times_whole a u = ap (λ z. R.mul z u) (whole_multiple k a) ∙ sym (multiple_is_mul R a u)

  pub whole_product : (a b : ℕ) → R.mul (whole k a) (whole k b) ≡ whole k (a * b)
  whole_product a b = times_whole a (whole k b) ∙ ap (multiple R a) (whole_multiple k b) ∙ multiple_multiple R a b one ∙ sym (whole_multiple k (a * b))

  pub sum_of_wholes : (m : ℕ) (f : ℕ → ℕ) → sum_below R m (λ l. whole k (f l)) ≡ whole k (sum_numbers m f)
  unfolding sum_numbers
  sum_of_wholes zero f = sum_zero R _ ∙ sym whole_zero
  sum_of_wholes (suc m) f = sum_suc R m _ ∙ ap (λ z. R.add z (whole k (f m))) (sum_of_wholes m f) ∙ sym (whole_sum (sum_numbers m f) (f m))

  module _ (entry : is_conductor k ≡ true) where
    pub whole_conjugate : (a : ℕ) → conjugate k (whole k a) ≡ whole k a
    whole_conjugate a =
        ap (conjugate k) (whole_multiple k a)
        ∙ multiple_map R R (conjugation k entry).bar (conjugation k entry).bar_add a one ∙ ap (multiple R a) (bar_one R (conjugation k entry))
        ∙ sym (whole_multiple k a)

    differ : (a d : ℕ) → whole k a ≡ whole k (a + suc d) → ⊥
    differ a d e =
        whole_apart k entry 1 (omega arith) ((torsion_free k).cancel (suc d) one (omega arith) (sym (whole_multiple k (suc d)) ∙ add_fixed R (whole k a) (whole k (suc d)) (sym (whole_sum a (suc d)) ∙ sym e)))

    -- whole numbers that are one value are equal
    pub whole_injective : (a b : ℕ) → whole k a ≡ whole k b → a ≡ b
    whole_injective a b e = omega (arith, less_differ a b e, less_differ b a (sym e))
      where
        less_differ : (a b : ℕ) → whole k a ≡ whole k b → a < b → ⊥
        less_differ a b e less = differ a (b - a - 1) (e ∙ ap (whole k) (omega (arith, less)))
