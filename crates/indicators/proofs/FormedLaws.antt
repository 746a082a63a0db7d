-- How products and root multiples are formed, and terms that are 0.
use Rattle.indicators.proofs.Names.{◌≡◌, ◌+◌, ◌*◌, ◌^◌, ◌&&◌, ℕ, List, true, pos, [], ◌∷◌, Option, Some, None, refl, ◌∙◌, ap, subst, arith, slice_index, ap₂, CyclotomicValue, cyclotomic_value, root, Formed, Forms, given, whole, multiplied, turned, IsTotal, quotient_exponent, indicator_term}
use Rattle.std.specs.Option.{is_some, IfSome}
use Rattle.std.proofs.lemmas.Bool.{le-leb, lt-ltb}
use Rattle.cyclotomic.specs.Cyclotomic.{cyclotomic}
use Rattle.cyclotomic.specs.Fit.{value_size, value_fits, product_fits, greatest_magnitude}
use Rattle.cyclotomic.specs.Laws.Values.{sum_nought, product_comm}
use Rattle.cyclotomic.specs.Ring.{Value, value_nought, value_product, value_sum}
use Rattle.cyclotomic.proofs.Sizes.{size-zeros}
use Rattle.qd_ring.specs.declared.cyc.Cyc.{Cyc}
use Rattle.qd_ring.specs.ArrayLaws.{value_of-zeros}
use Rattle.qd_ring.proofs.SpreadLaws.{product-nought}
use Rattle.qd_ring.proofs.TotalLaws.{total_more}

module _ (k : ℕ) where
  pub whole_forms : (n : ℕ) (c : Cyc k) → cyclotomic_value k c.coefficients ≡ cyclotomic_value k (pos n ∷ []) → Forms (given k (whole k n)) (Some c)
  whole_forms n c same = record { there = refl; stands = same }

  product_stands : (u v : Formed k) (a b : Cyc k) (r : Option (Cyc k)) → Forms u (Some a) → Forms v (Some b)
      → IfSome r (λ c. cyclotomic_value k c.coefficients ≡ value_product (cyclotomic k) (cyclotomic_value k a.coefficients) (cyclotomic_value k b.coefficients))
      → IfSome r (λ c. cyclotomic_value k c.coefficients ≡ (multiplied k u v).value)
  product_stands u v a b None left right is = tt
  product_stands u v a b (Some c) left right is = is ∙ ap₂ (value_product (cyclotomic k)) left.stands right.stands

  pub product_forms : (u v : Formed k) (a b : Cyc k) (r : Option (Cyc k)) → Forms u (Some a) → Forms v (Some b)
      → is_some r ≡ product_fits (cyclotomic_value k a.coefficients) (cyclotomic_value k b.coefficients)
      → IfSome r (λ c. cyclotomic_value k c.coefficients ≡ value_product (cyclotomic k) (cyclotomic_value k a.coefficients) (cyclotomic_value k b.coefficients))
      → Forms (multiplied k u v) r
  product_forms u v a b r left right fits is = record {
    there = fits ∙ ap₂ (λ x y. product_fits x y) left.stands right.stands ∙ ap₂ (λ x y. (x && y) && product_fits u.value v.value) left.there right.there;
    stands = product_stands u v a b r left right is;
  }

  turned_stands : (e : ℕ) (u : Formed k) (a : Cyc k) (r : Option (Cyc k)) → Forms u (Some a)
      → IfSome r (λ c. cyclotomic_value k c.coefficients ≡ value_product (cyclotomic k) (root k e) (cyclotomic_value k a.coefficients))
      → IfSome r (λ c. cyclotomic_value k c.coefficients ≡ (turned k e u).value)
  turned_stands e u a None formed is = tt
  turned_stands e u a (Some c) formed is = is ∙ ap (value_product (cyclotomic k) (root k e)) formed.stands

  pub turned_forms : (e : ℕ) (u : Formed k) (a : Cyc k) (r : Option (Cyc k)) → Forms u (Some a)
      → is_some r ≡ value_fits (value_product (cyclotomic k) (root k e) (cyclotomic_value k a.coefficients))
      → IfSome r (λ c. cyclotomic_value k c.coefficients ≡ value_product (cyclotomic k) (root k e) (cyclotomic_value k a.coefficients))
      → Forms (turned k e u) r
  turned_forms e u a r formed fits is = record {
    there = fits ∙ ap (λ x. value_fits (value_product (cyclotomic k) (root k e) x)) formed.stands ∙ ap (λ x. x && value_fits (value_product (cyclotomic k) (root k e) u.value)) formed.there;
    stands = turned_stands e u a r formed is;
  }

nought_size : {n : ℕ} (u : Value n) → u ≡ value_nought → value_size u ≡ 0
unfolding value_nought
nought_size {n} u none = ap (λ v. value_size v) none ∙ size-zeros n

nought_fits : {n : ℕ} (u : Value n) → u ≡ value_nought → value_fits u ≡ true
unfolding value_fits
nought_fits u none = le-leb (value_size u) greatest_magnitude (omega (arith, nought_size u none))

nought_product_fits : {n : ℕ} (u v : Value n) → u ≡ value_nought → product_fits u v ≡ true
unfolding product_fits
nought_product_fits u v none = lt-ltb (value_size u * value_size v) (2 ^ 108) (omega (arith, ap (λ a. a * value_size v) (nought_size u none)))

-- it fits, and is 0
pub record IsNought {k : ℕ} (u : Formed k) : Type 0 where
  pub fits : u.fits ≡ true
  pub nought : u.value ≡ value_nought

module _ (k : ℕ) where
  nought_whole : IsNought (given k (whole k 0))
  nought_whole = record { fits = refl; nought = value_of-zeros (cyclotomic k) 1 }

  nought_times : (u : Formed k) (v : CyclotomicValue k) → IsNought u → IsNought (multiplied k u (given k v))
  nought_times u v none = record {
    fits = ap₂ (λ a b. (a && true) && b) none.fits (nought_product_fits u.value v none.nought);
    nought = ap (λ a. value_product (cyclotomic k) a v) none.nought ∙ product_comm (cyclotomic k) value_nought v ∙ product-nought (cyclotomic k) v;
  }

  nought_turned : (e : ℕ) (u : Formed k) → IsNought u → IsNought (turned k e u)
  nought_turned e u none =
      let same : value_product (cyclotomic k) (root k e) u.value ≡ value_nought = ap (value_product (cyclotomic k) (root k e)) none.nought ∙ product-nought (cyclotomic k) (root k e) in
      record { fits = ap₂ (λ a b. a && b) none.fits (nought_fits (value_product (cyclotomic k) (root k e) u.value) same); nought = same }

  -- the term of a fusion number 0
  pub nought_term : (dims twists : List ℕ) (m i j : ℕ) → IsNought (indicator_term k dims twists m 0 i j)
  nought_term dims twists m i j =
      let left = nought_times (given k (whole k 0)) (whole k (slice_index dims i)) nought_whole in
      nought_turned (quotient_exponent k m (slice_index twists i) (slice_index twists j)) (multiplied k (multiplied k (given k (whole k 0)) (given k (whole k (slice_index dims i)))) (given k (whole k (slice_index dims j))))
      (nought_times (multiplied k (given k (whole k 0)) (given k (whole k (slice_index dims i)))) (whole k (slice_index dims j)) left)

-- a term that is 0 adds nothing
pub total_nought : {k : ℕ} (term : ℕ → Formed k) (i : ℕ) (sum : CyclotomicValue k) (sizes : ℕ) → IsTotal term i sum sizes → IsNought (term i) → IsTotal term (i + 1) sum sizes
total_nought {k} term i sum sizes t none =
    let size = nought_size (term i).value none.nought in
    let more = total_more term i sum sizes (term i).value t none.fits refl (omega (arith, size, t.small)) in
    subst (λ a. IsTotal term (i + 1) a sizes) (ap (value_sum sum) none.nought ∙ sum_nought (cyclotomic k) sum)
    (subst (λ m. IsTotal term (i + 1) (value_sum sum (term i).value) m) (omega (arith, size)) more)
