-- Tensor products of the simples by good tables decompose into simples, and S gives the numbers (Verlinde 1988).
use Rattle.transport.proofs.Names.{◌≡◌, ℕ, zero, suc, ◌*◌, ◌/◌, ◌<◌, sym, ap, ap₂, ◌∙◌, arith, mul_comm, mul_assoc, mul-le-mul, CommRing, sum_below, multiple, Below, below_equal, sum_ext, mul_sum, CyclotomicValue, cyclotomic_ring, conjugate, whole, Setting, Classes, Commuting, dimension, ◌⊎◌, inl, inr, mul-div_cancel, decomposition, fusion_dimensions, SimplesOver, count, dimension_at, AreSimples, full_character, tensor_character, fusion_sum, AreFusionNumbers, s_entry, sum_numbers, product_numbers, dimensions_product, OfAllSimples, TensorProductsDecompose, FusionDimensions, NumbersOfDimensions, NumbersAreRule}
use Rattle.characters.specs.Fusion.{AreFusionNumbers as AreAbstractNumbers}
use Rattle.characters.proofs.FusionNumbers.{tensor_multiplicities, s_products, number_by_s}
use Rattle.transport.proofs.Rows.{last_or_less}
use Rattle.transport.proofs.Doubles.{double_classes, order_positive}
use Rattle.transport.proofs.DoubleSimples.{setting, simples, divides, degree}
use Rattle.transport.proofs.CharacterLaws.{character_is}
use Rattle.transport.proofs.GoodTables.{numbered, good_tables, torsion_free}
use Rattle.transport.proofs.Wholes.{times_whole, whole_product, whole_injective, sum_of_wholes}
use Rattle.transport.proofs.PairSums.{simples_sum, order_is, square_is}
use Rattle.transport.proofs.Dimensions.{dimension_whole, some_member}
use Rattle.transport.proofs.SMatrixLaws.{simple, entry_is}
use Rattle.transport.proofs.TensorProducts.{tensor_is, fusion_is}

-- a positive factor cancels
cancel_factor : (n a b : ℕ) → 0 < n → n * a ≡ n * b → a ≡ b
cancel_factor n a b positive e = sym (mul-div_cancel a positive) ∙ ap (λ m. m / n) (mul_comm a n ∙ e ∙ mul_comm n b) ∙ mul-div_cancel b positive

-- a factor of a product, times the others
quotient_times : (n q p : ℕ) → 0 < n → q * n ≡ p → p / n * n ≡ p
quotient_times n q p positive e = ap (λ z. z / n * n) (sym e) ∙ ap (λ z. z * n) (mul-div_cancel q positive) ∙ e

-- each factor divides the product
factor_divides : (m : ℕ) (f : ℕ → ℕ) (l : ℕ) → l < m → (q : ℕ) × (q * f l ≡ product_numbers m f)
unfolding product_numbers
factor_divides zero f l below = absurd (omega (arith, below))
factor_divides (suc m) f l below = by (last_or_less l m (omega (arith, below))) (λ less. factor_divides m f l less)
  where
    by : (l < m) ⊎ (l ≡ m) → (l < m → (q : ℕ) × (q * f l ≡ product_numbers m f)) → (q : ℕ) × (q * f l ≡ product_numbers m f * f m)
    by (inl less) earlier =
        let (q, divides) = earlier less in
        (q * f m, mul_assoc q (f m) (f l) ∙ ap (λ z. q * z) (mul_comm (f m) (f l)) ∙ sym (mul_assoc q (f l) (f m)) ∙ ap (λ z. z * f m) divides)
    by (inr last) earlier = (product_numbers m f, ap (λ z. product_numbers m f * f z) last)

module _ (k : ℕ) (s : SimplesOver) (S : AreSimples k s) where
  abbrev T : Setting (CyclotomicValue k) (Below s.cocycle.group.order)
  T = setting k s S

  abbrev C : Classes (setting k s S).group
  C = double_classes s.cocycle S.cocycle

  abbrev R : CommRing (CyclotomicValue k)
  R = cyclotomic_ring k

  n_positive : 0 < s.cocycle.group.order
  n_positive = order_positive k S.conductor s.cocycle S.cocycle (divides k s S)

  dimension_positive : (l : Below (count k s)) → 0 < dimension_at k s l.value
  dimension_positive l =
      let size = some_member k s S l in
      let degree_there = (degree k s S l).0 in
      let product = mul-le-mul size degree_there in
      omega (arith, product)

  decomposed : (i j : Below (count k s)) (g x : Below s.cocycle.group.order) → Commuting T g x
      → R.mul (whole k s.cocycle.group.order) (tensor_character k s i.value j.value g.value x.value).value
      ≡ sum_below R (count k s) (λ l. R.mul (fusion_sum k s i.value j.value l).value (full_character k s l g.value x.value).value)
  decomposed i j g x commuting =
      sym (ap₂ R.mul (order_is k s S) (tensor_is k s S i j g x commuting))
      ∙ sym (decomposition T C (simples k s S) (numbered k s S) (good_tables k s S) i j g x commuting)
      ∙ simples_sum k s S _ (λ l. R.mul (fusion_sum k s i.value j.value l).value (full_character k s l g.value x.value).value)
      (λ l. ap₂ R.mul (fusion_is k s S i j l) (character_is k s S l g x commuting))

  dimensions : (i j : Below (count k s)) →
      sum_below R (count k s) (λ l. R.mul (fusion_sum k s i.value j.value l).value (whole k (dimension_at k s l)))
      ≡ whole k (s.cocycle.group.order * (dimension_at k s i.value * dimension_at k s j.value))
  dimensions i j =
      sym (simples_sum k s S _ (λ l. R.mul (fusion_sum k s i.value j.value l).value (whole k (dimension_at k s l)))
      (λ l. ap₂ R.mul (fusion_is k s S i j l) (dimension_whole k s S l)))
      ∙ fusion_dimensions T C (simples k s S) (numbered k s S) (good_tables k s S) i j
      ∙ ap₂ R.mul (order_is k s S) (ap₂ R.mul (dimension_whole k s S i) (dimension_whole k s S j) ∙ whole_product k (dimension_at k s i.value) (dimension_at k s j.value))
      ∙ whole_product k s.cocycle.group.order (dimension_at k s i.value * dimension_at k s j.value)

  module _ (number : ℕ → ℕ → ℕ → ℕ) (numbers : AreFusionNumbers k s number) where
    abbrev at_simples : Below (count k s) → Below (count k s) → Below (count k s) → ℕ
    at_simples i j l = number i.value j.value l.value

    -- they are those of the double
    are_numbers : AreAbstractNumbers T C (simples k s S) at_simples
    are_numbers = record {
      whole = λ i j l.
          fusion_is k s S i j l ∙ numbers i.value j.value l.value i.below j.below l.below
          ∙ ap (whole k) (mul_comm s.cocycle.group.order (number i.value j.value l.value)) ∙ sym (whole_product k (number i.value j.value l.value) s.cocycle.group.order)
          ∙ times_whole k (number i.value j.value l.value) (whole k s.cocycle.group.order) ∙ ap (multiple R (number i.value j.value l.value)) (sym (order_is k s S));
    }

    multiplicities : (i j : Below (count k s)) (g x : Below s.cocycle.group.order) → Commuting T g x
        → (tensor_character k s i.value j.value g.value x.value).value
        ≡ sum_below R (count k s) (λ l. R.mul (whole k (number i.value j.value l)) (full_character k s l g.value x.value).value)
    multiplicities i j g x commuting =
        sym (tensor_is k s S i j g x commuting)
        ∙ tensor_multiplicities T C (simples k s S) (numbered k s S) (good_tables k s S) (torsion_free k) at_simples are_numbers i j g x commuting
        ∙ simples_sum k s S _ (λ l. R.mul (whole k (number i.value j.value l)) (full_character k s l g.value x.value).value)
        (λ l. sym (times_whole k (number i.value j.value l.value) _) ∙ ap (R.mul (whole k (number i.value j.value l.value))) (character_is k s S l g x commuting))

    columns : (i j l : Below (count k s)) →
        R.mul (s_entry k s i.value l.value) (s_entry k s j.value l.value)
        ≡ R.mul (whole k (dimension_at k s l.value)) (sum_below R (count k s) (λ m. R.mul (whole k (number i.value j.value m)) (s_entry k s m l.value)))
    columns i j l =
        sym (ap₂ R.mul (entry_is k s S i l) (entry_is k s S j l))
        ∙ s_products T C (simples k s S) (numbered k s S) (good_tables k s S) (torsion_free k) at_simples are_numbers i j l
        ∙ ap₂ R.mul (dimension_whole k s S l)
        (simples_sum k s S _ (λ m. R.mul (whole k (number i.value j.value m)) (s_entry k s m l.value))
        (λ m. sym (times_whole k (number i.value j.value m.value) _) ∙ ap (R.mul (whole k (number i.value j.value m.value))) (entry_is k s S m l)))

    abbrev L : ℕ
    L = dimensions_product k s

    cofactor : (l : Below (count k s)) → R.mul (whole k (dimensions_product k s / dimension_at k s l.value)) (dimension T C (simples k s S) l) ≡ whole k (dimensions_product k s)
    cofactor l =
        let (q, divides) = factor_divides (count k s) (dimension_at k s) l.value l.below in
        ap (R.mul (whole k (L / dimension_at k s l.value))) (dimension_whole k s S l) ∙ whole_product k (L / dimension_at k s l.value) (dimension_at k s l.value)
        ∙ ap (whole k) (quotient_times (dimension_at k s l.value) q L (dimension_positive l) divides)

    by_s : (i j m : Below (count k s)) →
        sum_below R (count k s) (λ l. R.mul (whole k (dimensions_product k s / dimension_at k s l))
        (R.mul (R.mul (s_entry k s i.value l) (s_entry k s j.value l)) (conjugate k (s_entry k s m.value l))))
        ≡ whole k (number i.value j.value m.value * (dimensions_product k s * (s.cocycle.group.order * s.cocycle.group.order)))
    by_s i j m =
        let n = s.cocycle.group.order in
        let N = number i.value j.value m.value in
        sym (simples_sum k s S _ (λ l. R.mul (whole k (L / dimension_at k s l)) (R.mul (R.mul (s_entry k s i.value l) (s_entry k s j.value l)) (conjugate k (s_entry k s m.value l))))
        (λ l. ap₂ (λ u v. R.mul (whole k (L / dimension_at k s l.value)) (R.mul u (conjugate k v))) (ap₂ R.mul (entry_is k s S i l) (entry_is k s S j l)) (entry_is k s S m l)))
        ∙ number_by_s T C (simples k s S) (numbered k s S) (good_tables k s S) (torsion_free k) at_simples are_numbers (whole k L) (λ l. whole k (L / dimension_at k s l.value)) cofactor i j m
        ∙ ap (multiple R N) (ap (R.mul (whole k L)) (square_is k s S) ∙ whole_product k L (n * n))
        ∙ sym (times_whole k N (whole k (L * (n * n)))) ∙ whole_product k N (L * (n * n))

pub tensor_products_decompose : OfAllSimples TensorProductsDecompose
tensor_products_decompose k s S i j g x i_below j_below g_below x_below commutes =
    decomposed k s S (simple k s S i i_below) (simple k s S j j_below) (record { value = g; below = g_below }) (record { value = x; below = x_below }) (below_equal _ _ commutes)

pub fusion_of_dimensions : OfAllSimples FusionDimensions
fusion_of_dimensions k s S i j i_below j_below = dimensions k s S (simple k s S i i_below) (simple k s S j j_below)

pub numbers_of_dimensions : OfAllSimples NumbersOfDimensions
numbers_of_dimensions k s S i j i_below j_below number numbers =
    let n = s.cocycle.group.order in
    let R = cyclotomic_ring k in
    let m = count k s in
    let d = dimension_at k s in
    cancel_factor n (sum_numbers m (λ l. number l * d l)) (d i * d j) (n_positive k s S)
    (whole_injective k S.conductor _ _
    (sym (whole_product k n _) ∙ ap (R.mul (whole k n)) (sym (sum_of_wholes k m (λ l. number l * d l))) ∙ mul_sum R m (whole k n) (λ l. whole k (number l * d l))
    ∙ sum_ext R m _ _
    (λ l below. whole_product k n (number l * d l) ∙ ap (whole k) (sym (mul_assoc n (number l) (d l))) ∙ sym (whole_product k (n * number l) (d l))
    ∙ ap (λ u. R.mul u (whole k (d l))) (sym (numbers l below)))
    ∙ dimensions k s S (simple k s S i i_below) (simple k s S j j_below)))

pub numbers_are_rule : OfAllSimples NumbersAreRule
numbers_are_rule k s S number numbers = record {
  numbers = numbers;
  multiplicities = λ i j g x i_below j_below g_below x_below commutes.
      multiplicities k s S number numbers (simple k s S i i_below) (simple k s S j j_below) (record { value = g; below = g_below }) (record { value = x; below = x_below }) (below_equal _ _ commutes);
  dimensions = λ i j i_below j_below. numbers_of_dimensions k s S i j i_below j_below (number i j) (λ l below. numbers i j l i_below j_below below);
  columns = λ i j l i_below j_below l_below. columns k s S number numbers (simple k s S i i_below) (simple k s S j j_below) (simple k s S l l_below);
  by_s = λ i j m i_below j_below m_below. by_s k s S number numbers (simple k s S i i_below) (simple k s S j j_below) (simple k s S m m_below);
}
