-- The rules of fit of the cyclotomic ring of conductor K (this project's rules).
use Rattle.std.specs.Prelude.{ℕ}
use Rattle.cyclotomic.specs.Cyclotomic.{cyclotomic}
use Rattle.cyclotomic.specs.CyclotomicRing.{cyclotomic_ring}
use Rattle.cyclotomic.specs.Fit.{value_fits, product_fits, sizes_overflow}
use Rattle.cyclotomic.proofs.Bounds.{sizes_overflow-front, sizes_overflow-order, sizes_overflow-sum_fits, sizes_overflow-one}
use Rattle.qd_ring.specs.Fit.{FitRules}

-- a value fits by its size, a product by the sizes of its factors, and a listed sum overflows by the sizes of its terms
abbrev pub cyclotomic_fit : (k : ℕ) → FitRules (cyclotomic_ring k)
cyclotomic_fit k = record {
  fits = value_fits;
  product_fits = product_fits;
  overflows = sizes_overflow;
  front = sizes_overflow-front;
  order = sizes_overflow-order;
  sum_fits = sizes_overflow-sum_fits (cyclotomic k);
  one_term = sizes_overflow-one;
}
