-- The sum of an indicator is the sum of its formula over all pairs of simples.
use Rattle.root_fusion.proofs.Names.{◌≡◌, ℕ, zero, suc, ◌+◌, ◌-◌, ◌*◌, ◌/◌, ◌%◌, ◌<◌, true, Option, Some, None, List, get_or, map, refl, sym, ap, ap₂, ◌∙◌, arith, zero-add, unwrap_or, range_with_len, zero-mul, suc-mul, mul_assoc, mod_self, div_below, mod_below, length-map-range_with_len, get_or-map-range_with_len, is_conductor, whole, SimplesOver, AreSimples, count, dimension_at, twist_at, over_at, characters_at, simple_at, OfAllSimples, twist_small, quotient_exponent, indicator_term, term_at, dimensions, twists, numbers_into}
use Rattle.algebra.specs.Structures.{CommRing}
use Rattle.algebra.specs.Sums.{sum_below, power}
use Rattle.algebra.proofs.RingLaws.{one_mul}
use Rattle.algebra.proofs.SumLaws.{sum_ext, power_zero, power_suc}
use Rattle.cyclotomic.specs.Cyclotomic.{cyclotomic}
use Rattle.cyclotomic.specs.Ring.{value_product}
use Rattle.cyclotomic.specs.CyclotomicRing.{CyclotomicValue, cyclotomic_ring, root, conjugate}
use Rattle.cyclotomic.proofs.Checks.{conductor_positive}
use Rattle.cyclotomic.proofs.Images.{root-zero, root-sum}
use Rattle.cyclotomic.proofs.Inverses.{root_modulo, root_conjugate}
use Rattle.table_check.specs.Check.{twist_of}
use Rattle.transport.proofs.PairSums.{double_sum}
use Rattle.transport.proofs.Wholes.{whole_product}
use Rattle.root_fusion.specs.IndicatorValues.{pair_value, IndicatorValues}

-- ---- powers of quotients of roots of unity
module _ (k : ℕ) where
  abbrev R : CommRing (CyclotomicValue k)
  R = cyclotomic_ring k

  root_power : (e m : ℕ) → root k (m * e) ≡ power (cyclotomic_ring k) (root k e) m
  root_power e zero = ap (root k) (zero-mul e) ∙ root-zero (cyclotomic k) ∙ sym (power_zero R (root k e))
  root_power e (suc m) =
      ap (root k) (suc-mul m e) ∙ root-sum (cyclotomic k) (m * e) e ∙ ap (λ a. R.mul a (root k e)) (root_power e m) ∙ sym (power_suc R (root k e) m)

  module _ (entry : is_conductor k ≡ true) where
    root_inverse : (u : ℕ) → u < k → root k (k - u) ≡ conjugate k (root k u)
    root_inverse u below =
        let whole : (k - u) + u ≡ k = omega (arith, below) in
        let inverse : R.mul (root k (k - u)) (root k u) ≡ R.one =
        sym (root-sum (cyclotomic k) (k - u) u) ∙ ap (root k) whole ∙ root_modulo k entry k ∙ ap (root k) (mod_self k) ∙ root-zero (cyclotomic k) in
        sym (R.mul_one (root k (k - u))) ∙ ap (R.mul (root k (k - u))) (sym (root_conjugate k entry u))
        ∙ sym (R.mul_assoc (root k (k - u)) (root k u) (conjugate k (root k u))) ∙ ap (λ a. R.mul a (conjugate k (root k u))) inverse
        ∙ one_mul R (conjugate k (root k u))

    quotient_power : (m t u : ℕ) → u < k
        → root k (quotient_exponent k m t u) ≡ power (cyclotomic_ring k) (value_product (cyclotomic k) (root k t) (conjugate k (root k u))) m
    quotient_power m t u below =
        sym (root_modulo k entry (m * (t + (k - u)))) ∙ root_power (t + (k - u)) m
        ∙ ap (λ a. power R a m) (root-sum (cyclotomic k) t (k - u) ∙ ap (R.mul (root k t)) (root_inverse u below))

  whole_products : (a b c : ℕ) → value_product (cyclotomic k) (value_product (cyclotomic k) (whole k a) (whole k b)) (whole k c) ≡ whole k (a * (b * c))
  whole_products a b c = ap (λ u. R.mul u (whole k c)) (whole_product k a b) ∙ whole_product k (a * b) c ∙ ap (whole k) (mul_assoc a b c)

-- an element of the list of the values of f below n
listed_at : (f : ℕ → ℕ) (n i : ℕ) → i < n → get_or (map f (range_with_len 0 n)) i 0 ≡ f i
listed_at f n i below = get_or-map-range_with_len f 0 n i i 0 below (zero-add i)

module _ (k : ℕ) (s : SimplesOver) (S : AreSimples k s) where
  twist_below : (i : ℕ) → twist_at k s i < k
  twist_below i = by (twist_of (over_at k s i) (characters_at k s i) (simple_at k s i).row) refl
    where
      by : (o : Option ℕ) → twist_of (over_at k s i) (characters_at k s i) (simple_at k s i).row ≡ o → unwrap_or o 0 < k
      by None e = conductor_positive k S.conductor
      by (Some t) e = twist_small (over_at k s i) (characters_at k s i) (simple_at k s i).row t e

  -- the term of a pair, by its lists
  term_is : (dims exponents : List ℕ) (m number i j : ℕ) → get_or dims i 0 ≡ dimension_at k s i → get_or dims j 0 ≡ dimension_at k s j
      → get_or exponents i 0 ≡ twist_at k s i → get_or exponents j 0 ≡ twist_at k s j
      → (indicator_term k dims exponents m number i j).value ≡ pair_value k s m number i j
  term_is dims exponents m number i j first second t u =
      let R = cyclotomic_ring k in
      ap₂ R.mul
      (ap₂ (λ a b. root k (quotient_exponent k m a b)) t u ∙ quotient_power k S.conductor m (twist_at k s i) (twist_at k s j) (twist_below j))
      (ap₂ (λ a b. R.mul (R.mul (whole k number) (whole k a)) (whole k b)) first second ∙ whole_products k number (dimension_at k s i) (dimension_at k s j))
      ∙ R.mul_comm _ _

  module _ (number : ℕ → ℕ → ℕ → ℕ) (l m : ℕ) where
    abbrev r : ℕ
    r = count k s

    -- the pair with the number q
    numbered_term : (q : ℕ) → q < count k s * count k s
        → (term_at k (numbers_into k s number l) (dimensions k s) (twists k s) m q).value
        ≡ pair_value k s m (number (q / count k s) (q % count k s) l) (q / count k s) (q % count k s)
    numbered_term q below =
        let length_is = length-map-range_with_len (dimension_at k s) 0 r in
        let some : 0 < count k s = positive r below in
        let i_below = div_below q r r some below in
        let j_below = mod_below q r some in
        ap₂ (λ n d. (indicator_term k (dimensions k s) (twists k s) m n (q / d) (q % d)).value) (listed_at (λ q. number (q / r) (q % r) l) (r * r) q below) length_is
        ∙ term_is (dimensions k s) (twists k s) m (number (q / r) (q % r) l) (q / r) (q % r) (listed_at (dimension_at k s) r (q / r) i_below)
        (listed_at (dimension_at k s) r (q % r) j_below) (listed_at (twist_at k s) r (q / r) i_below) (listed_at (twist_at k s) r (q % r) j_below)
      where
        positive : (n : ℕ) → q < n * n → 0 < n
        positive zero inside = absurd (omega (arith, inside))
        positive (suc n) inside = omega arith

pub indicator_values : OfAllSimples IndicatorValues
indicator_values k s S number l m =
    let r = count k s in
    let R = cyclotomic_ring k in
    ap (λ n. sum_below R (n * n) (λ q. (term_at k (numbers_into k s number l) (dimensions k s) (twists k s) m q).value)) (length-map-range_with_len (dimension_at k s) 0 r)
    ∙ sum_ext R (r * r) _ _ (numbered_term k s S number l m) ∙ double_sum R r r (λ i j. pair_value k s m (number i j l) i j)
