-- Sparse values: one more term, sizes, and the terms of a product.
use Rattle.qd_ring.proofs.Names.{◌≡◌, ℕ, ◌+◌, ◌*◌, ◌^◌, ◌%◌, ◌<◌, ◌≤◌, true, List, [], ◌∷◌, ◌++◌, length, take, get_or, refl, sym, ap, ◌∙◌, arith, mul-le-mul, mul-le-mul_left, take_more, ℤ, pos, ◌*ℤ◌, nat_abs, to_z-of_z, w128, SFits, to_z, of_z, ap₂, add_mul, mul_add, mul_assoc, add_nought, is_conductor, cyclotomic, degree, value_sum, value_multiple, value_nought, value_product, CyclotomicValue, cyclotomic_ring, root, value_size, times_x, sum_assoc, root-sum, root_modulo, size-zeros, magnitude-product, root_size, Monomial, value_of_terms, total_of_terms, IsSparse, turned_product, nought_map, sum_list_nil, sum_list_cons, sum_list_push, map-append, sum_by-cons}
use Rattle.std.proofs.lemmas.List.Sums.{sum_by_push, sum_by_more, sum_by_more_le}
use Rattle.qd_ring.proofs.BufferLaws.{read_128}
use Rattle.qd_ring.proofs.SpreadLaws.{product-multiple}
use Rattle.qd_ring.proofs.ProductLaws.{multiple-product}
use Rattle.qd_ring.proofs.SizeLaws.{size_sum, size_multiple}

-- ---- a product of two numbers
pub read_product : (f c : ℤ) → SFits w128 f → SFits w128 c → nat_abs f * nat_abs c < 2 ^ 126 → to_z w128 (of_z w128 (to_z w128 (of_z w128 f) *ℤ to_z w128 (of_z w128 c))) ≡ f *ℤ c
read_product f c f_fits c_fits small =
    ap₂ (λ x y. to_z w128 (of_z w128 (x *ℤ y))) (to_z-of_z w128 f f_fits) (to_z-of_z w128 c c_fits)
    ∙ read_128 (f *ℤ c) (omega (arith, magnitude-product f c, small))

abbrev pub no_term : Monomial
no_term = record { power = 0; coefficient = pos 0 }

-- ---- one more term
pub total-push : (terms : List Monomial) (term : Monomial) → total_of_terms (terms ++ term ∷ []) ≡ total_of_terms terms + nat_abs term.coefficient
unfolding total_of_terms
total-push terms term = sum_by_push (λ t. nat_abs t.coefficient) terms term

pub total-none : total_of_terms [] ≡ 0
unfolding total_of_terms
total-none = refl

module _ (k : ℕ) where
  pub value-none : value_of_terms k [] ≡ value_nought
  unfolding value_of_terms
  value-none = sum_list_nil (cyclotomic_ring k)

  value-more : (term : Monomial) (terms : List Monomial) → value_of_terms k (term ∷ terms) ≡ value_sum (value_multiple term.coefficient (root k term.power)) (value_of_terms k terms)
  unfolding value_of_terms
  value-more term terms = sum_list_cons (cyclotomic_ring k) _ _

  pub value-push : (terms : List Monomial) (term : Monomial) → value_of_terms k (terms ++ term ∷ []) ≡ value_sum (value_of_terms k terms) (value_multiple term.coefficient (root k term.power))
  unfolding value_of_terms
  value-push terms term = simp (map-append, sum_list_push)

-- a coefficient 0 adds nothing
pub value_unchanged : (k : ℕ) (c : ℤ) (e : ℕ) (u : CyclotomicValue k) → c ≡ pos 0 → u ≡ value_sum u (value_multiple c (root k e))
value_unchanged k c e u is =
    sym (ap (λ z. value_sum u (value_multiple z (root k e))) is ∙ ap (value_sum u) ((times_x (cyclotomic k)).scale_zero (root k e)) ∙ add_nought (cyclotomic_ring k) u)

-- a multiple of a term, times a root
pub term_turned : (k : ℕ) → is_conductor k ≡ true → (f c : ℤ) (start power place : ℕ) → place ≡ (start + power) % k
    → value_multiple (f *ℤ c) (root k place) ≡ value_multiple f (value_product (cyclotomic k) (root k start) (value_multiple c (root k power)))
term_turned k entry f c start power place e =
    let m = cyclotomic k in
    (times_x m).scale_product f c (root k place)
    ∙ ap (λ r. value_multiple f (value_multiple c r)) (ap (root k) e ∙ sym (root_modulo k entry (start + power)) ∙ root-sum m start power)
    ∙ ap (value_multiple f) (sym (product-multiple m c (root k start) (root k power)))

-- ---- maps of values that respect sums
module _ (k : ℕ) (F : CyclotomicValue k → CyclotomicValue k) (sums : (u v : CyclotomicValue k) → F (value_sum u v) ≡ value_sum (F u) (F v)) where
  image-none : F (value_of_terms k []) ≡ value_nought
  image-none = ap F (value-none k) ∙ nought_map (cyclotomic_ring k) (cyclotomic_ring k) F sums

  -- no terms add nothing
  pub nothing_added : (old : CyclotomicValue k) → value_sum old (F (value_of_terms k [])) ≡ old
  nothing_added old = ap (value_sum old) image-none ∙ add_nought (cyclotomic_ring k) old

  -- the term with the number i is added
  pub term_added : (terms : List Monomial) (i : ℕ) (otherwise : Monomial) → i < length terms → (old now next : CyclotomicValue k)
      → now ≡ value_sum old (F (value_of_terms k (take i terms)))
      → next ≡ value_sum now (F (value_multiple (get_or terms i otherwise).coefficient (root k (get_or terms i otherwise).power)))
      → next ≡ value_sum old (F (value_of_terms k (take (i + 1) terms)))
  term_added terms i otherwise here old now next before after =
      rw (take_more terms i otherwise here, value-push k (take i terms), sums)
      ((rw before at after) ∙ sum_assoc (cyclotomic k) old _ _)

  -- the image is at most the total, where the images of roots are at most b
  size-image : ((c : ℤ) (u : CyclotomicValue k) → F (value_multiple c u) ≡ value_multiple c (F u)) → (b : ℕ)
      → ((p : ℕ) → value_size (F (root k p)) ≤ b) → (terms : List Monomial) → value_size (F (value_of_terms k terms)) ≤ total_of_terms terms * b
  unfolding total_of_terms value_nought
  size-image multiples b each [] = omega (arith, ap (λ u. value_size u) image-none, size-zeros (degree (cyclotomic k)))
  size-image multiples b each (term ∷ terms) =
      let c = term.coefficient in
      let image = F (root k term.power) in
      let rest = F (value_of_terms k terms) in
      let is : F (value_of_terms k (term ∷ terms)) ≡ value_sum (value_multiple c image) rest =
      rw (value-more k term terms, sums, multiples) in
      let total = ap (λ t. t * b) (sum_by-cons (λ (t : Monomial). nat_abs t.coefficient) term terms) in
      omega
      (arith, ap (λ u. value_size u) is, size_sum k (value_multiple c image) rest, size_multiple k c image, mul-le-mul_left (nat_abs c) (each term.power), size-image multiples b each terms, total)

-- multiples of turned values, and turned products, respect sums
pub scaled_sums : (k : ℕ) (f : ℤ) (r u v : CyclotomicValue k) → value_multiple f (value_product (cyclotomic k) r (value_sum u v))
    ≡ value_sum (value_multiple f (value_product (cyclotomic k) r u)) (value_multiple f (value_product (cyclotomic k) r v))
scaled_sums k f r u v = simp (mul_add (cyclotomic_ring k)) ((times_x (cyclotomic k)).scale_add f _ _)

pub product_sums : (k e : ℕ) (w u v : CyclotomicValue k) → turned_product k e (value_sum u v) w ≡ value_sum (turned_product k e u w) (turned_product k e v w)
product_sums k e w u v = simp (add_mul (cyclotomic_ring k), mul_add (cyclotomic_ring k))

-- a multiple comes out of a turned product
product_multiples : (k e : ℕ) (w : CyclotomicValue k) (c : ℤ) (u : CyclotomicValue k) → turned_product k e (value_multiple c u) w ≡ value_multiple c (turned_product k e u w)
product_multiples k e w c u = simp (multiple-product (cyclotomic k), product-multiple (cyclotomic k))

-- a turned product with a root is turned by both
product_root : (k e p : ℕ) (w : CyclotomicValue k) → turned_product k e (root k p) w ≡ value_product (cyclotomic k) (root k (e + p)) w
product_root k e p w = sym (mul_assoc (cyclotomic_ring k) (root k e) (root k p) w) ∙ ap (λ z. value_product (cyclotomic k) z w) (sym (root-sum (cyclotomic k) e p))

pub product_turned : (k : ℕ) → is_conductor k ≡ true → (e p : ℕ) (c : ℤ) (w : CyclotomicValue k)
    → value_multiple c (value_product (cyclotomic k) (root k ((e + p) % k)) w) ≡ turned_product k e (value_multiple c (root k p)) w
product_turned k entry e p c w =
    ap (λ r. value_multiple c (value_product (cyclotomic k) r w)) (sym (root_modulo k entry (e + p)))
    ∙ ap (value_multiple c) (sym (product_root k e p w)) ∙ sym (product_multiples k e w c (root k p))

-- ---- sizes
module _ (k : ℕ) (entry : is_conductor k ≡ true) where
  -- a value times a root is at most the total of its terms,
  pub size-turned : (e : ℕ) (terms : List Monomial) → value_size (value_product (cyclotomic k) (root k e) (value_of_terms k terms)) ≤ total_of_terms terms
  size-turned e terms =
      let turned = λ (u : CyclotomicValue k). value_product (cyclotomic k) (root k e) u in
      omega
      (arith, size-image k turned (mul_add (cyclotomic_ring k) (root k e)) (λ c u. product-multiple (cyclotomic k) c (root k e) u) 1 (λ p. rw (← (root-sum (cyclotomic k) e p)) (root_size k entry (e + p))) terms)

  -- and so is a product with its total for each term of the other factor
  pub size-turned_product : (e : ℕ) (terms others : List Monomial) → value_size (turned_product k e (value_of_terms k terms) (value_of_terms k others)) ≤ total_of_terms terms * total_of_terms others
  size-turned_product e terms others =
      let w = value_of_terms k others in
      size-image k (λ u. turned_product k e u w) (product_sums k e w) (product_multiples k e w) (total_of_terms others)
      (λ p. rw (product_root k e p w) (size-turned (e + p) others)) terms

-- ---- the term with the number i
module _ (terms : List Monomial) (i : ℕ) (otherwise : Monomial) (here : i < length terms) where
  pub total_more : total_of_terms (take (i + 1) terms) ≡ total_of_terms (take i terms) + nat_abs (get_or terms i otherwise).coefficient
  unfolding total_of_terms
  total_more = sum_by_more (λ t. nat_abs t.coefficient) terms i otherwise here

  pub total_within : total_of_terms (take i terms) + nat_abs (get_or terms i otherwise).coefficient ≤ total_of_terms terms
  unfolding total_of_terms
  total_within = sum_by_more_le (λ t. nat_abs t.coefficient) terms i otherwise here

-- ---- the room for a product of two values whose sizes fit together
pub sparse_room : (k : ℕ) (terms others : List Monomial) (s t p q : ℕ) → IsSparse k terms s p → IsSparse k others t q → s * t < 2 ^ 108 → total_of_terms terms * total_of_terms others < 2 ^ 126
sparse_room k terms others s t p q of_terms of_others small =
    let both : total_of_terms terms * total_of_terms others ≤ (42 * s) * (42 * t) =
    mul-le-mul (omega (arith, of_terms.total_is, of_terms.spread)) (omega (arith, of_others.total_is, of_others.spread)) in
    omega (arith, both, small)
