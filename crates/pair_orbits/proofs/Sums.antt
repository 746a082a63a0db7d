-- Sums over all commuting pairs are sums over the least of them, each as often as it has conjugates.
use Rattle.pair_orbits.proofs.Names.{◌≡◌, ℕ, ◌*◌, ◌<◌, Bool, true, false, ◌&&◌, eqb, length, refl, sym, ap, ap₂, ◌∙◌, eq-eqb, eqb-true, sum_by, and_true, CommRing, sum_ext, sum_exchange, sum_pick, pick_cong, pick_pick, pick_sum, Table, IsGroup, same_test, both, IsInvariant, sum_over_pairs, sum_over_orbits, SumsOverOrbits, SizesOverOrbits, passing_copies, sum_below, pick, multiple, sum_list, first_of, second_of, is_commuting, are_conjugate, is_least, conjugates_of, least_pairs, weighted_pair, listed_pairs, commuting_pairs_of}
use Rattle.orders.proofs.Sums.{total, pick as pick_number, total_same, total_nought, total_exchange, total_pick}
use Rattle.pair_orbits.proofs.Actions.{first_below, second_below, first_carried, second_carried, pair_carrier, pair_sym, commuting_conjugate}
use Rattle.pair_orbits.proofs.Least.{least_conjugate, least_conjugate_is, least_conjugate_least, least_conjugate_unique}
use Rattle.pair_orbits.proofs.Passing.{map_again, sum_by_again, passing_total, passing_sum, passing_multiple}

-- whether the pair q is listed
abbrev pub is_listed : Table → ℕ → Bool
is_listed t q = is_commuting t q && is_least t q

module _ (t : Table) (G : IsGroup t) where
  -- q is listed and conjugate to p exactly where it is the least conjugate of p and the elements of p commute
  pub listed_test : (p q : ℕ) → p < t.order * t.order → q < t.order * t.order
      → (is_listed t q && are_conjugate t q p) ≡ (eqb q (least_conjugate t p) && is_commuting t p)
  listed_test p q p_below q_below =
      let least = least_conjugate_is t G p p_below in
      same_test (is_listed t q && are_conjugate t q p) (eqb q (least_conjugate t p) && is_commuting t p)
      (λ h.
      let (listed, conjugates) = and_true (is_listed t q) (are_conjugate t q p) h in
      let (commutes, is_least) = and_true (is_commuting t q) (is_least t q) listed in
      both (eqb q (least_conjugate t p)) (is_commuting t p)
      (eq-eqb _ _ (least_conjugate_unique t G p q p_below q_below is_least conjugates))
      (commuting_conjugate t G q p q_below conjugates commutes))
      (λ h.
      let (same, commutes) = and_true (eqb q (least_conjugate t p)) (is_commuting t p) h in
      let e : q ≡ least_conjugate t p = eqb-true _ _ same in
      both (is_listed t q) (are_conjugate t q p)
      (ap (is_listed t) e
      ∙ both (is_commuting t (least_conjugate t p)) (is_least t (least_conjugate t p))
      (commuting_conjugate t G p (least_conjugate t p) p_below least.passes commutes) (least_conjugate_least t G p p_below))
      (ap (λ x. are_conjugate t x p) e ∙ pair_sym t G p (least_conjugate t p) p_below least.passes))

  -- what is invariant is the same at conjugate pairs
  pub invariant_at : {A : Type 0} (f : ℕ → ℕ → A) → IsInvariant t f → (p q : ℕ) → p < t.order * t.order → are_conjugate t p q ≡ true → is_commuting t p ≡ true
      → f (first_of t p) (second_of t p) ≡ f (first_of t q) (second_of t q)
  invariant_at f invariant p q below conjugates commutes =
      let (k, k_below, carries) = pair_carrier t G p q conjugates in
      sym (invariant.same k (first_of t p) (second_of t p) k_below (first_below t G p below) (second_below t G p) (eqb-true _ _ commutes))
      ∙ sym (ap₂ f (first_carried t G k p k_below) (second_carried t G k p k_below))
      ∙ ap (λ x. f (first_of t x) (second_of t x)) carries

  -- where the tests hold
  met_at : {A : Type 0} (f : ℕ → ℕ → A) → IsInvariant t f → (p q : ℕ) → p < t.order * t.order → q < t.order * t.order
      → (eqb q (least_conjugate t p) && is_commuting t p) ≡ true → f (first_of t q) (second_of t q) ≡ f (first_of t p) (second_of t p)
  met_at f invariant p q p_below q_below h =
      let (same, commutes) = and_true (eqb q (least_conjugate t p)) (is_commuting t p) h in
      let least = least_conjugate_is t G p p_below in
      ap (λ x. f (first_of t x) (second_of t x)) (eqb-true _ _ same)
      ∙ sym (invariant_at f invariant p (least_conjugate t p) p_below least.passes commutes)

-- in a commutative ring
module _ {A : Type 0} (R : CommRing A) (t : Table) (G : IsGroup t) (f : ℕ → ℕ → A) (invariant : IsInvariant t f) where
  abbrev at : ℕ → A
  at p = f (first_of t p) (second_of t p)

  ring_term : (q p : ℕ) → q < t.order * t.order → p < t.order * t.order
      → pick R (is_listed t q) (pick R (are_conjugate t q p) (at q)) ≡ pick R (eqb q (least_conjugate t p)) (pick R (is_commuting t p) (at p))
  ring_term q p q_below p_below =
      pick_pick R (is_listed t q) (are_conjugate t q p) (at q)
      ∙ ap (λ b. pick R b (at q)) (listed_test t G p q p_below q_below)
      ∙ pick_cong R (eqb q (least_conjugate t p) && is_commuting t p) (at q) (at p) (met_at t G f invariant p q p_below q_below)
      ∙ sym (pick_pick R (eqb q (least_conjugate t p)) (is_commuting t p) (at p))

  -- the sum over the least pairs, by numbers
  orbits_by_numbers : sum_over_orbits R t f ≡ sum_below R (t.order * t.order) (λ q. pick R (is_listed t q) (multiple R (length (conjugates_of t q)) (at q)))
  unfolding least_pairs
  orbits_by_numbers =
      ap (sum_list R) (map_again (weighted_pair t) (λ pair. multiple R pair.weight (f pair.g pair.h)) (least_pairs t))
      ∙ passing_sum R (t.order * t.order) (is_listed t) (λ q. multiple R (length (conjugates_of t q)) (at q))

  copies : (q : ℕ) → pick R (is_listed t q) (multiple R (length (conjugates_of t q)) (at q))
      ≡ sum_below R (t.order * t.order) (λ p. pick R (is_listed t q) (pick R (are_conjugate t q p) (at q)))
  unfolding conjugates_of
  copies q =
      ap (pick R (is_listed t q)) (passing_multiple R (t.order * t.order) (at q) (are_conjugate t q))
      ∙ pick_sum R (t.order * t.order) (is_listed t q) (λ p. pick R (are_conjugate t q p) (at q))

  pub sum_by_orbits : sum_over_pairs R t f ≡ sum_over_orbits R t f
  sum_by_orbits =
      let N = t.order * t.order in
      sym (orbits_by_numbers
      ∙ sum_ext R N _ _ (λ q q_below. copies q ∙ sum_ext R N _ _ (λ p p_below. ring_term q p q_below p_below))
      ∙ sum_exchange R N N (λ q p. pick R (eqb q (least_conjugate t p)) (pick R (is_commuting t p) (at p)))
      ∙ sum_ext R N _ _ (λ p p_below. sum_pick R N (least_conjugate t p) (λ q. pick R (is_commuting t p) (at p)) (least_conjugate_is t G p p_below).below))

pub sums_over_orbits : SumsOverOrbits
sums_over_orbits R t G f invariant = sum_by_orbits R t G f invariant

-- and for numbers
pick_both : (a b : Bool) (x : ℕ) → pick_number a (pick_number b x) ≡ pick_number (a && b) x
pick_both true b x = refl
pick_both false b x = refl

pick_agree : (b : Bool) (x y : ℕ) → (b ≡ true → x ≡ y) → pick_number b x ≡ pick_number b y
pick_agree true x y h = h refl
pick_agree false x y h = refl

pick_total : (b : Bool) (n : ℕ) (f : ℕ → ℕ) → pick_number b (total n f) ≡ total n (λ i. pick_number b (f i))
pick_total true n f = refl
pick_total false n f = sym (total_nought n (λ i. 0) (λ i below. refl))

module _ (t : Table) (G : IsGroup t) (size : ℕ → ℕ → ℕ) (invariant : IsInvariant t size) where
  abbrev size_at : ℕ → ℕ
  size_at p = size (first_of t p) (second_of t p)

  number_term : (q p : ℕ) → q < t.order * t.order → p < t.order * t.order
      → pick_number (is_listed t q) (pick_number (are_conjugate t q p) (size_at q))
      ≡ pick_number (eqb q (least_conjugate t p)) (pick_number (is_commuting t p) (size_at p))
  number_term q p q_below p_below =
      pick_both (is_listed t q) (are_conjugate t q p) (size_at q)
      ∙ ap (λ b. pick_number b (size_at q)) (listed_test t G p q p_below q_below)
      ∙ pick_agree (eqb q (least_conjugate t p) && is_commuting t p) (size_at q) (size_at p) (met_at t G size invariant p q p_below q_below)
      ∙ sym (pick_both (eqb q (least_conjugate t p)) (is_commuting t p) (size_at p))

  sizes_by_numbers : sum_by (λ pair. pair.weight * size pair.g pair.h) (listed_pairs t)
      ≡ total (t.order * t.order) (λ q. pick_number (is_listed t q) (length (conjugates_of t q) * size_at q))
  unfolding least_pairs
  sizes_by_numbers =
      sum_by_again (weighted_pair t) (λ pair. pair.weight * size pair.g pair.h) (least_pairs t)
      ∙ passing_total (t.order * t.order) (is_listed t) (λ q. length (conjugates_of t q) * size_at q)

  number_copies : (q : ℕ) → pick_number (is_listed t q) (length (conjugates_of t q) * size_at q)
      ≡ total (t.order * t.order) (λ p. pick_number (is_listed t q) (pick_number (are_conjugate t q p) (size_at q)))
  unfolding conjugates_of
  number_copies q =
      ap (pick_number (is_listed t q)) (passing_copies (t.order * t.order) (size_at q) (are_conjugate t q))
      ∙ pick_total (is_listed t q) (t.order * t.order) (λ p. pick_number (are_conjugate t q p) (size_at q))

  pub size_by_orbits : sum_by size_at (commuting_pairs_of t) ≡ sum_by (λ pair. pair.weight * size pair.g pair.h) (listed_pairs t)
  unfolding commuting_pairs_of
  size_by_orbits =
      let N = t.order * t.order in
      passing_total N (is_commuting t) size_at
      ∙ sym (sizes_by_numbers
      ∙ total_same N _ _ (λ q q_below. number_copies q ∙ total_same N _ _ (λ p p_below. number_term q p q_below p_below))
      ∙ total_exchange N N (λ q p. pick_number (eqb q (least_conjugate t p)) (pick_number (is_commuting t p) (size_at p)))
      ∙ total_same N _ _ (λ p p_below. total_pick N (λ q. pick_number (is_commuting t p) (size_at p)) (least_conjugate t p) (least_conjugate_is t G p p_below).below))

pub sizes_over_orbits : SizesOverOrbits
sizes_over_orbits t G size invariant = size_by_orbits t G size invariant
