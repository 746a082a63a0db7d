-- Whole numbers as values: conjugation, and which of them are not 0.
use Rattle.table_check.proofs.Names.{◌≡◌, ℕ, zero, suc, ◌-◌, ◌<◌, ◌≤◌, ◌++◌, true, [], ◌∷◌, get_or, refl, sym, ap, ◌∙◌, arith, pos, nat_lt, list_all, ltb-true, is_conductor, cyclotomic, CyclotomicValue, cyclotomic_ring, conjugate, whole}
use borrow.Author.Differences.{up}
use Rattle.algebra.specs.Involutions.{Involution}
use Rattle.algebra.proofs.InvolutionLaws.{bar_nought}
use Rattle.cyclotomic.specs.Conductors.{conductors, phi_of}
use Rattle.cyclotomic.specs.Division.{degree, remainder}
use Rattle.cyclotomic.specs.Polynomial.{zeros}
use Rattle.cyclotomic.specs.Ring.{value_nought, value_of}
use Rattle.cyclotomic.specs.Laws.Remainders.{remainder-short}
use Rattle.cyclotomic.proofs.Fields.{cyclotomic_degree}
use Rattle.cyclotomic.proofs.Images.{image-sum}
use Rattle.cyclotomic.proofs.Inverses.{conjugation_prime, galois_product, conjugate_conjugate}
use Rattle.cyclotomic.proofs.Tests.{at_each_conductor}

-- complex conjugation respects sums and products, and is its own inverse
abbrev pub conjugation : (k : ℕ) → is_conductor k ≡ true → Involution (cyclotomic_ring k)
conjugation k entry = record {
  bar = conjugate k;
  bar_add = image-sum (cyclotomic k) (k - 1);
  bar_mul = galois_product k entry (k - 1) (conjugation_prime k entry);
  bar_bar = conjugate_conjugate k entry;
}

all_degrees : list_all (λ (entry : ℕ × ℕ). nat_lt 0 (phi_of entry.0)) conductors ≡ true
unfolding phi_of conductors
all_degrees = refl

first_of_zeros : (n : ℕ) → get_or (zeros n) 0 (pos 0) ≡ pos 0
first_of_zeros zero = refl
first_of_zeros (suc n) = refl

module _ (k : ℕ) (entry : is_conductor k ≡ true) where
  degree_positive : 0 < degree (cyclotomic k)
  degree_positive =
      let some : 0 < phi_of k = ltb-true 0 (phi_of k) (at_each_conductor (λ k. nat_lt 0 (phi_of k)) all_degrees k entry) in
      let same : degree (cyclotomic k) ≡ phi_of k = cyclotomic_degree k entry in
      omega (arith, some, same)

  -- a whole number from 1 on is not the value 0
  pub whole_apart : (d : ℕ) → 1 ≤ d → whole k d ≡ value_nought → ⊥
  unfolding value_of value_nought
  whole_apart d some e =
      let rest : ℕ = degree (cyclotomic k) - 1 in
      let positive : 0 < degree (cyclotomic k) = degree_positive in
      let short : remainder (cyclotomic k) (pos d ∷ []) ≡ (pos d ∷ []) ++ zeros rest = remainder-short (cyclotomic k) (pos d ∷ []) rest (omega (arith, positive)) in
      let nothing : pos 0 ≡ pos d = sym (first_of_zeros (degree (cyclotomic k))) ∙ sym (ap (λ (u : CyclotomicValue k). get_or u.coefficients 0 (pos 0)) e) ∙ ap (λ xs. get_or xs 0 (pos 0)) short in
      let same : 0 ≡ d = ap up nothing in
      omega (arith, same, some)

  -- nor is its conjugate
  pub conjugate_apart : (d : ℕ) (u : CyclotomicValue k) → 1 ≤ d → u ≡ whole k d → conjugate k u ≡ value_nought → ⊥
  conjugate_apart d u some is e =
      whole_apart d some (
      sym is ∙ sym (conjugate_conjugate k entry u) ∙ ap (conjugate k) e ∙ bar_nought (cyclotomic_ring k) (conjugation k entry))
