-- Arrays of values: their parts, their sizes, and that they fit.
use Rattle.std.proofs.Common.{◌≡◌, ℕ, zero, suc, max, true, List, [], ◌∷◌, ◌++◌, length, take, drop, refl, sym, ap, ◌∙◌, arith, eqb-true, ◌==◌, nat_le}
use Rattle.std.proofs.lemmas.List.{take-append-drop, length-take-le}
use Rattle.std.specs.Prelude.{ℤ, pos, negsuc, nat_abs}
use Rattle.std.specs.List.{list_all}
use borrow.Author.Tests.{le-leb}
use mathlib.Core.Path.{ap₂}
use Rattle.cyclotomic.specs.Polynomial.{zeros}
use Rattle.cyclotomic.specs.Cyclotomic.{cyclotomic}
use Rattle.cyclotomic.specs.Conductors.{is_conductor, phi_of}
use Rattle.cyclotomic.specs.Fit.{size_of, value_size, value_fits, greatest_magnitude}
use Rattle.cyclotomic.specs.Ring.{value_nought, value_of, value_one}
use Rattle.cyclotomic.specs.CyclotomicRing.{CyclotomicValue, cyclotomic_ring, cyclotomic_value, root}
use Rattle.cyclotomic.specs.Laws.Action.{LinearMap, act, act-nil, act-cons, act-nothing}
use Rattle.cyclotomic.specs.Laws.Remainders.{remainder-itself}
use Rattle.cyclotomic.specs.Laws.Values.{times_x, value_of-act, value_of-nil}
use Rattle.algebra.specs.Sums.{power}
use Rattle.cyclotomic.proofs.Tests.{and_left, and_right}
use Rattle.cyclotomic.proofs.Fields.{cyclotomic_degree}
use Rattle.cyclotomic.proofs.Sizes.{size-zeros}
use Rattle.cyclotomic.proofs.Bounds.{root_size}
use Rattle.cyclotomic.proofs.Orthogonality.{power-root}
use Rattle.qd_ring.specs.CycArrays.{is_array, is_nought, is_small}
use Rattle.qd_ring.specs.ReductionSigns.{conductor_bounds}

-- ---- zeros at the end
act-padded : {V : Type 0} (M : LinearMap V) (p : List ℤ) (j : ℕ) (v : V) → act M (p ++ zeros j) v ≡ act M p v
act-padded M [] j v = act-nothing M j v ∙ sym (act-nil M v)
act-padded M (a ∷ p) j v =
    act-cons M a (p ++ zeros j) v ∙ ap (λ z. M.add (M.scale a v) (M.map z)) (act-padded M p j v) ∙ sym (act-cons M a p v)

pub value_of-padded : (m p : List ℤ) (j : ℕ) → value_of m (p ++ zeros j) ≡ value_of m p
value_of-padded m p j =
    value_of-act m (p ++ zeros j) ∙ act-padded (times_x m) p j (value_one m) ∙ sym (value_of-act m p)

pub value_of-zeros : (m : List ℤ) (j : ℕ) → value_of m (zeros j) ≡ value_nought
value_of-zeros m j = value_of-padded m [] j ∙ value_of-nil m

-- ---- arrays
pub all_noughts : (xs : List ℤ) → list_all is_nought xs ≡ true → xs ≡ zeros (length xs)
all_noughts [] e = refl
all_noughts (pos n ∷ xs) e =
    ap₂ (λ x y. x ∷ y) (ap pos (eqb-true n 0 (and_left (n == 0) (list_all is_nought xs) e))) (all_noughts xs (and_right (n == 0) (list_all is_nought xs) e))
all_noughts (negsuc n ∷ xs) e = cc

pub zeros_noughts : (j : ℕ) → list_all is_nought (zeros j) ≡ true
zeros_noughts zero = refl
zeros_noughts (suc j) = zeros_noughts j

module _ (k : ℕ) (entry : is_conductor k ≡ true) where
  module _ (xs : List ℤ) (array : is_array k xs ≡ true) where
    pub array_length : length xs ≡ 42
    unfolding is_array
    array_length = eqb-true (length xs) 42 (and_left (length xs == 42) (list_all is_nought (drop (phi_of k) xs)) array)

    -- an array is its first phi(K) places, then zeros
    pub array_parts : xs ≡ take (phi_of k) xs ++ zeros (length (drop (phi_of k) xs))
    unfolding is_array
    array_parts =
        sym (take-append-drop (phi_of k) xs)
        ∙ ap (λ z. take (phi_of k) xs ++ z) (all_noughts (drop (phi_of k) xs) (and_right (length xs == 42) (list_all is_nought (drop (phi_of k) xs)) array))

    pub array_front : length (take (phi_of k) xs) ≡ phi_of k
    array_front =
        let bounds = conductor_bounds k entry in
        length-take-le (phi_of k) xs (omega (arith, array_length, bounds.2))

    -- the value of the array has its first places
    pub value-front : cyclotomic_value k (take (phi_of k) xs) ≡ cyclotomic_value k xs
    value-front =
        sym (ap (value_of (cyclotomic k)) array_parts ∙ value_of-padded (cyclotomic k) (take (phi_of k) xs) (length (drop (phi_of k) xs)))

    pub coefficients_of : (cyclotomic_value k xs).coefficients ≡ take (phi_of k) xs
    unfolding value_of
    coefficients_of =
        ap (λ (v : CyclotomicValue k). v.coefficients) (sym value-front)
        ∙ remainder-itself (cyclotomic k) (take (phi_of k) xs) (array_front ∙ sym (cyclotomic_degree k entry))

-- ---- sizes
pub size-padded : (p : List ℤ) (j : ℕ) → size_of (p ++ zeros j) ≡ size_of p
unfolding size_of
size-padded [] j = size-zeros j
size-padded (a ∷ p) j = ap (max (nat_abs a)) (size-padded p j)

module _ (k : ℕ) (entry : is_conductor k ≡ true) where
  pub size-value : (xs : List ℤ) → is_array k xs ≡ true → value_size (cyclotomic_value k xs) ≡ size_of xs
  size-value xs array =
      ap size_of (coefficients_of k entry xs array)
      ∙ sym (ap size_of (array_parts k entry xs array) ∙ size-padded (take (phi_of k) xs) (length (drop (phi_of k) xs)))

  pub value_fits-small : (xs : List ℤ) → is_array k xs ≡ true → value_fits (cyclotomic_value k xs) ≡ is_small xs
  unfolding value_fits is_small
  value_fits-small xs a = ap (λ s. nat_le s greatest_magnitude) (size-value xs a)

-- ---- the ring of values
pub array_fits : (k : ℕ) → is_conductor k ≡ true → (xs : List ℤ) → is_array k xs ≡ true → is_small xs ≡ true → value_fits (cyclotomic_value k xs) ≡ true
array_fits k entry xs array small = value_fits-small k entry xs array ∙ small

pub power_fits : (k : ℕ) → is_conductor k ≡ true → (e : ℕ) → value_fits (power (cyclotomic_ring k) (root k 1) e) ≡ true
unfolding value_fits
power_fits k entry e =
    ap value_fits (power-root (cyclotomic k) e)
    ∙ le-leb (value_size (root k e)) greatest_magnitude (omega (arith, root_size k entry e))
