-- The numerators from the conjugates that are kept.
use Rattle.modular_st.proofs.Names.{◌≡◌, ◌+◌, ◌*◌, ◌/◌, ◌<◌, ◌&&◌, ◌==◌, ℕ, Bool, true, false, cond, Option, Some, None, IfSome, List, [], ◌∷◌, length, get_or, map, refl, sym, ◌∙◌, ap, ap₂, subst, arith, Vec, div-mul-add, mod-mul-add, length-map, get_or-map, multiple, representatives, class_of, cyclotomic, value_product, value_nought, CyclotomicValue, cyclotomic_ring, conjugate, Pair, listed_pairs, no_pair, Monomial, value_of_terms, given, IsTurnedProduct, SimplesOver, count, class_at, AreSimples, full_character, pair_term, s_sum, filter, and_cases, multiple_mul, multiple_one, multiple_nought, added, weighted, formed_by_orbits, Forms, KeptConjugates, product_at, dot_product, exchanged, meets, conjugate_at, met_pairs, IsKeptRow, AreKeptRows, AreKept}
use mathlib.Core.Logic.{inl, inr}
use mathlib.Core.Path.{fun_ext}
use Rattle.algebra.specs.Structures.{CommRing}
use Rattle.algebra.proofs.RingLaws.{nought_mul, mul_nought, one_mul}
use Rattle.cyclotomic.proofs.Images.{root-zero}
use Rattle.pair_orbits.proofs.AddedSums.{listed_added, added_filtered}
use Rattle.qd_ring.specs.declared.cyc.Cyc.{Cyc}
use Rattle.modular_st.proofs.Terms.{pair_below, other_class}
use Rattle.modular_st.proofs.KeptFits.{terms_fit, pair_terms_invariant}

-- a product of two values is one with the root of exponent 0
pub plain_product : (k r : ℕ) (u v : CyclotomicValue k) → r ≡ 0 → IsTurnedProduct k (given k (value_product (cyclotomic k) u v)) r u v
plain_product k r u v none =
    subst (λ e. IsTurnedProduct k (given k (value_product (cyclotomic k) u v)) e u v) (sym none)
    (record {
      fits = λ together fit. refl;
      is = sym (ap (λ z. value_product (cyclotomic k) z (value_product (cyclotomic k) u v)) (root-zero (cyclotomic k)) ∙ one_mul (cyclotomic_ring k) (value_product (cyclotomic k) u v));
    })

-- pairs of a list that is turned round
filter_turned : {X Y : Type 0} (f : X → Y) (test : Y → Bool) (xs : List X) → filter test (map f xs) ≡ map f (filter (λ x. test (f x)) xs)
filter_turned f test [] = refl
filter_turned f test (x ∷ xs) = by (test (f x)) (filter_turned f test xs)
  where
    by : (b : Bool) → filter test (map f xs) ≡ map f (filter (λ x. test (f x)) xs)
        → cond b (f x ∷ filter test (map f xs)) (filter test (map f xs)) ≡ map f (cond b (x ∷ filter (λ x. test (f x)) xs) (filter (λ x. test (f x)) xs))
    by true e = ap (λ ys. f x ∷ ys) e
    by false e = e

and_turned : (a b : Bool) → (a && b) ≡ (b && a)
and_turned true true = refl
and_turned true false = refl
and_turned false true = refl
and_turned false false = refl

module _ (k : ℕ) (s : SimplesOver) where
  abbrev R : CommRing (CyclotomicValue k)
  R = cyclotomic_ring k

  -- the product of both conjugates is the term, as often as the weight says
  product_is : (i j : ℕ) (pair : Pair) → value_product (cyclotomic k) (conjugate_at k s i pair) (conjugate_at k s j (exchanged pair)) ≡ weighted k (pair_term k s i j) pair
  product_is i j pair =
      let u = conjugate k (full_character k s i pair.g pair.h).value in
      let v = conjugate k (full_character k s j pair.h pair.g).value in
      ap (value_product (cyclotomic k) (multiple R pair.weight u)) (multiple_one R v) ∙ multiple_mul R pair.weight u v

  -- it is 0 outside of the classes
  outside_nought : (i j : ℕ) (pair : Pair) → meets s.cocycle.group (class_at k s i) (class_at k s j) pair ≡ false → weighted k (pair_term k s i j) pair ≡ value_nought
  outside_nought i j pair other = elim (and_cases _ _ other) [
    | inl first ↦
        ap (multiple R pair.weight)
        (ap (λ u. value_product (cyclotomic k) u (conjugate k (full_character k s j pair.h pair.g).value)) (other_class k s i pair.g pair.h first).nought ∙ nought_mul R _)
        ∙ multiple_nought R pair.weight
    | inr second ↦
        ap (multiple R pair.weight)
        (ap (value_product (cyclotomic k) (conjugate k (full_character k s i pair.g pair.h).value)) (other_class k s j pair.h pair.g second).nought ∙ mul_nought R _)
        ∙ multiple_nought R pair.weight
  ]

  -- a kept row, by its place
  pub row_at_place : (pairs : List Pair) (rows : List (Vec (List Monomial))) → AreKeptRows k s pairs rows → (i d : ℕ) (row : Vec (List Monomial)) → i < count k s
      → d < length (representatives s.cocycle.group) → row ≡ get_or rows (i * length (representatives s.cocycle.group) + d) row → IsKeptRow k s pairs i d row.items
  row_at_place pairs rows kept i d row i_below d_below read =
      let r = length (representatives s.cocycle.group) in
      let there : i * r + d < length rows = let fits = pair_below i (count k s) d r i_below d_below in omega (arith, kept.count_is, fits) in
      subst (λ (x : Vec (List Monomial)). IsKeptRow k s pairs i d x.items) (sym read)
      (subst (λ a. IsKeptRow k s pairs a d (get_or rows (i * r + d) row).items) (div-mul-add i r d d_below)
      (subst (λ b. IsKeptRow k s pairs ((i * r + d) / r) b (get_or rows (i * r + d) row).items) (mod-mul-add i r d d_below)
      (kept.kept (i * r + d) row there)))

  module _ (i j : ℕ) (left right : List (List Monomial))
      (of_left : IsKeptRow k s (listed_pairs s.cocycle.group) i (class_at k s j) left)
      (of_right : IsKeptRow k s (map exchanged (listed_pairs s.cocycle.group)) j (class_at k s i) right) where
    abbrev block : List Pair
    block = met_pairs k s i (class_at k s j) (listed_pairs s.cocycle.group)

    -- both rows go along the same pairs
    right_pairs : met_pairs k s j (class_at k s i) (map exchanged (listed_pairs s.cocycle.group)) ≡ map exchanged block
    right_pairs =
        filter_turned exchanged (meets s.cocycle.group (class_at k s j) (class_at k s i)) (listed_pairs s.cocycle.group)
        ∙ ap (λ test. map exchanged (filter test (listed_pairs s.cocycle.group)))
        (fun_ext (λ pair. and_turned (class_of s.cocycle.group pair.h == class_at k s j) (class_of s.cocycle.group pair.g == class_at k s i)))

    left_width : length left ≡ length block
    left_width = sym (length-map left (value_of_terms k)) ∙ ap length of_left.values ∙ length-map block (conjugate_at k s i)

    right_values : map (value_of_terms k) right ≡ map (conjugate_at k s j) (map exchanged block)
    right_values = of_right.values ∙ ap (map (conjugate_at k s j)) right_pairs

    right_width : length right ≡ length block
    right_width =
        sym (length-map right (value_of_terms k)) ∙ ap length right_values ∙ length-map (map exchanged block) (conjugate_at k s j) ∙ length-map block exchanged

    pub same_width : length left ≡ length right
    same_width = left_width ∙ sym right_width

    left_at : (q : ℕ) → q < length left → value_of_terms k (get_or left q []) ≡ conjugate_at k s i (get_or block q no_pair)
    left_at q inside =
        sym (get_or-map (value_of_terms k) left q [] value_nought inside) ∙ ap (λ xs. get_or xs q value_nought) of_left.values
        ∙ get_or-map (conjugate_at k s i) block q no_pair value_nought (omega (arith, inside, left_width))

    right_at : (q : ℕ) → q < length left → value_of_terms k (get_or right q []) ≡ conjugate_at k s j (exchanged (get_or block q no_pair))
    right_at q inside =
        sym (get_or-map (value_of_terms k) right q [] value_nought (omega (arith, inside, same_width))) ∙ ap (λ xs. get_or xs q value_nought) right_values
        ∙ get_or-map (conjugate_at k s j) (map exchanged block) q no_pair value_nought (omega (arith, inside, left_width, length-map block exchanged))
        ∙ ap (conjugate_at k s j) (get_or-map exchanged block q no_pair no_pair (omega (arith, inside, left_width)))

    -- the sum of the products is that over the pairs of both classes, and over all listed pairs
    dot_is : dot_product k left right ≡ added k (weighted k (pair_term k s i j)) (listed_pairs s.cocycle.group)
    dot_is =
        listed_added k (weighted k (pair_term k s i j)) block (length left) (product_at k left right) no_pair (sym left_width)
        (λ q inside. ap₂ (value_product (cyclotomic k)) (left_at q inside) (right_at q inside) ∙ product_is i j (get_or block q no_pair))
        ∙ added_filtered k (weighted k (pair_term k s i j)) (meets s.cocycle.group (class_at k s i) (class_at k s j)) (outside_nought i j) (listed_pairs s.cocycle.group)

    -- and over all commuting pairs
    pub numerator_is : AreSimples k s → (kept : KeptConjugates k) → AreKept k s kept → i < count k s → j < count k s → (sum : Cyc k)
        → Forms (dot_product k left right) (Some sum) → Forms (s_sum k s i j) (Some sum)
    numerator_is S kept are i_below j_below sum =
        subst (λ f. Forms f (Some sum))
        (dot_is
        ∙ sym (formed_by_orbits k s.cocycle.group S.cocycle.cochain.group (pair_term k s i j) (terms_fit k s S kept are i j i_below j_below) (pair_terms_invariant k s S i j i_below j_below)))

    -- the same of an answer
    pub numerators_are : AreSimples k s → (kept : KeptConjugates k) → AreKept k s kept → i < count k s → j < count k s → (answer : Option (Cyc k))
        → IfSome answer (λ sum. Forms (dot_product k left right) (Some sum)) → IfSome answer (λ sum. Forms (s_sum k s i j) (Some sum))
    numerators_are S kept are i_below j_below (Some sum) forms = numerator_is S kept are i_below j_below sum forms
    numerators_are S kept are i_below j_below None forms = tt
