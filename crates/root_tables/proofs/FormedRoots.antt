-- Values that are formed of sums of roots of unity: each step fits while the roots are few.
use Rattle.root_tables.proofs.Names.{◌≡◌, ℕ, zero, suc, ◌+◌, ◌*◌, ◌^◌, ◌<◌, ◌≤◌, Bool, true, false, ◌&&◌, not, refl, sym, ap, arith, le_trans, mul-le-mul, leb-true, ap₂, all_below-all, is_conductor, no_root, roots_whole, roots_together, roots_multiplied, roots_same, roots_turned, roots_conjugated, roots_size, roots_fit, roots_fit_together}
use Rattle.algebra.specs.Sums.{sum_below}
use Rattle.algebra.proofs.SumLaws.{sum_zero, sum_suc}
use Rattle.cyclotomic.specs.Cyclotomic.{cyclotomic}
use Rattle.cyclotomic.specs.Ring.{value_sum, value_nought, value_product}
use Rattle.cyclotomic.specs.CyclotomicRing.{CyclotomicValue, cyclotomic_ring, root, conjugate}
use Rattle.cyclotomic.specs.Fit.{greatest_magnitude, value_size}
use Rattle.qd_ring.specs.RootSums.{IsSumOfRoots}
use Rattle.qd_ring.specs.Formed.{Formed, given, whole, conjugated, multiplied, turned, listed, where_so}
use Rattle.qd_ring.proofs.SizeLaws.{listed_fits}

-- how many roots are few
pub few_fit : (r : ℕ) → r ≤ 1000000 → r ≤ greatest_magnitude
few_fit r few = le_trans few (leb-true 1000000 greatest_magnitude refl)

pub few_together : (r : ℕ) → r ≤ 1000000 → r < 2 ^ 108
few_together r few = let below : r < 1000001 = omega (arith, few) in le_trans below (leb-true 1000001 (2 ^ 108) refl)

-- the value is a sum of at most r roots of unity
pub record IsOfRoots (k r : ℕ) (u : CyclotomicValue k) : Type 0 where
  pub count : ℕ
  pub within : count ≤ r
  pub roots : IsSumOfRoots k count u

-- it is, and the steps that form it fit
pub record FormedOfRoots {k : ℕ} (r : ℕ) (u : Formed k) : Type 0 where
  pub fits : u.fits ≡ true
  pub value : IsOfRoots k r u.value

module _ (k : ℕ) (entry : is_conductor k ≡ true) where
  pub of_roots : (r most : ℕ) (u : CyclotomicValue k) → r ≤ most → IsSumOfRoots k r u → FormedOfRoots most (given k u)
  of_roots r most u within roots = record { fits = refl; value = record { count = r; within = within; roots = roots } }

  pub nought_formed : (r : ℕ) → FormedOfRoots r (given k value_nought)
  nought_formed r = of_roots 0 r value_nought (omega arith) (no_root k)

  pub whole_formed : (n most : ℕ) → n ≤ most → FormedOfRoots most (given k (whole k n))
  whole_formed n most within = of_roots n most (whole k n) within (roots_whole k n)

  module _ (r : ℕ) (u : Formed k) (small : r ≤ greatest_magnitude) (of_u : FormedOfRoots r u) where
    pub conjugated_formed : FormedOfRoots r (conjugated k u)
    conjugated_formed =
        let roots = roots_conjugated k entry of_u.value.count u.value of_u.value.roots in
        record {
          fits = ap₂ (λ a b. a && b) of_u.fits (roots_fit k entry of_u.value.count (conjugate k u.value) roots (omega (arith, of_u.value.within, small)));
          value = record { count = of_u.value.count; within = of_u.value.within; roots = roots };
        }

    pub turned_formed : (e : ℕ) → FormedOfRoots r (turned k e u)
    turned_formed e =
        let roots = roots_turned k e of_u.value.count u.value of_u.value.roots in
        record {
          fits =
              ap₂ (λ a b. a && b) of_u.fits
              (roots_fit k entry of_u.value.count (value_product (cyclotomic k) (root k e) u.value) roots (omega (arith, of_u.value.within, small)));
          value = record { count = of_u.value.count; within = of_u.value.within; roots = roots };
        }

  pub multiplied_formed : (r s : ℕ) (u v : Formed k) → r * s < 2 ^ 108 → FormedOfRoots r u → FormedOfRoots s v → FormedOfRoots (r * s) (multiplied k u v)
  multiplied_formed r s u v small of_u of_v =
      let within = mul-le-mul of_u.value.within of_v.value.within in
      record {
        fits =
            ap₂ (λ a b. a && b) (ap₂ (λ a b. a && b) of_u.fits of_v.fits)
            (roots_fit_together k entry of_u.value.count of_v.value.count u.value v.value of_u.value.roots of_v.value.roots (omega (arith, within, small)));
        value = record {
          count = of_u.value.count * of_v.value.count;
          within = within;
          roots = roots_multiplied k of_u.value.count of_v.value.count u.value v.value of_u.value.roots of_v.value.roots;
        };
      }

  pub where_formed : (test : Bool) (r : ℕ) (u : Formed k) → FormedOfRoots r u → FormedOfRoots r (where_so k test u)
  where_formed true r u of_u = of_u
  where_formed false r u of_u = nought_formed r

  sum_of_few : (n r : ℕ) (value : ℕ → CyclotomicValue k) → ((i : ℕ) → i < n → IsOfRoots k r (value i)) → IsOfRoots k (n * r) (sum_below (cyclotomic_ring k) n value)
  sum_of_few zero r value each =
      record {
        count = 0;
        within = omega arith;
        roots = roots_same k 0 0 value_nought (sum_below (cyclotomic_ring k) zero value) refl (sym (sum_zero (cyclotomic_ring k) value)) (no_root k);
      }
  sum_of_few (suc n) r value each =
      let before = sum_of_few n r value (λ i below. each i (omega arith)) in
      let last = each n (omega arith) in
      record {
        count = before.count + last.count;
        within = omega (arith, before.within, last.within);
        roots =
            roots_same k (before.count + last.count) (before.count + last.count) (value_sum (sum_below (cyclotomic_ring k) n value) (value n))
            (sum_below (cyclotomic_ring k) (suc n) value) refl (sym (sum_suc (cyclotomic_ring k) n value))
            (roots_together k before.count last.count (sum_below (cyclotomic_ring k) n value) (value n) before.roots last.roots);
      }

  pub listed_formed : (n r : ℕ) (term : ℕ → Formed k) → n * r ≤ greatest_magnitude → ((i : ℕ) → i < n → FormedOfRoots r (term i)) → FormedOfRoots (n * r) (listed k n term)
  listed_formed n r term small each =
      record {
        fits =
            ap not
            (listed_fits k n r (λ i. (term i).fits) (λ i. (term i).value) (all_below-all n (λ i. (term i).fits) (λ i below. (each i below).fits))
            (λ i below. size i (each i below).value) small);
        value = sum_of_few n r (λ i. (term i).value) (λ i below. (each i below).value);
      }
    where
      size : (i : ℕ) → IsOfRoots k r (term i).value → value_size (term i).value ≤ r
      size i of_i = omega (arith, roots_size k entry of_i.count (term i).value of_i.roots, of_i.within)
