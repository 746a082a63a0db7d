-- The pairs (c,0) over the places c carry a pair to all its conjugates.
use Rattle.central_ext.proofs.Names.{IsPair, IsTwist, None, Pair, Some, TwistedSubgroup, ap, are_conjugate, arith, below_more, carries_to, cases_lt, cond, ext_conjugate, first, first_finds, first_of_class, inl, inr, is_some, is_some_of, least_passing, min, pair_at, pair_count, pair_number, refl, same_test, size, some_of, some_root, sym, true, ℕ, ◌+◌, ◌<◌, ◌∙◌, ◌≡◌, ◌≤◌}
use Rattle.central_ext.proofs.PairLaws.{same_pair, same_pair_of, conjugate_is, conjugate_pair, conjugate_by, conjugate_itself, conjugate_back, carrier_of, pair_below, pair_of_number, number_of_pair}
use Rattle.central_ext.proofs.ClassNumbers.{conjugate_to, first_unique}

-- (c,0)
abbrev pub over : ℕ → Pair
over c = record { place = c; root = 0 }

-- u is the least number of the pair t and of those that (c,0) carries it to, for c below i
pub record IsLeastReached (s : TwistedSubgroup) (t i u : ℕ) : Type 0 where
  pub below : u < pair_count s
  pub at_most : u ≤ t
  pub conjugate : conjugate_to s t u ≡ true
  pub least : (c : ℕ) → c < i → u ≤ pair_number s (ext_conjugate s (over c) (pair_at s t))

module _ (s : TwistedSubgroup) (twist : IsTwist s) where
  pub over_pair : (c : ℕ) → c < size s → IsPair s (over c)
  over_pair c below = record { place_below = below; root_below = some_root s twist }

  -- the root of a pair plays no part in conjugation by it
  pub conjugate_by_place : (c a : Pair) → IsPair s c → IsPair s a → ext_conjugate s c a ≡ ext_conjugate s (over c.place) a
  conjugate_by_place c a p q = conjugate_is s twist c a p q ∙ sym (conjugate_is s twist (over c.place) a (over_pair c.place p.place_below) q)

  pub places_suffice : (a b : Pair) → IsPair s a → is_some (first (size s) (λ c. cond (carries_to s a b c) (Some c) None)) ≡ are_conjugate s a b
  places_suffice a b p =
      same_test (is_some (first (size s) (λ c. cond (carries_to s a b c) (Some c) None))) (are_conjugate s a b)
      (λ e.
      let found = some_of _ e in
      let least = least_passing (size s) (carries_to s a b) found.0 found.1 in
      conjugate_by s twist a b (over found.0) (over_pair found.0 least.below) (same_pair _ b least.passes))
      (λ e.
      let found = carrier_of s twist a b e in
      let here : carries_to s a b found.0.place ≡ true = same_pair_of _ b (sym (conjugate_by_place found.0 a found.1 p) ∙ found.2) in
      let seen = first_finds (size s) found.0.place (λ c. cond (carries_to s a b c) (Some c) None) found.0.place found.1.place_below (ap (λ o. cond o (Some found.0.place) None) here) in
      is_some_of _ seen.0 seen.1)

  pub reached_none : (t : ℕ) → t < pair_count s → IsLeastReached s t 0 t
  reached_none t below = record {
    below = below;
    at_most = omega arith;
    conjugate = conjugate_itself s twist (pair_at s t) (pair_below s twist t below);
    least = λ c none. absurd (omega arith);
  }

  -- the number of a conjugate of the pair t
  reached_conjugate : (t i : ℕ) → t < pair_count s → i < size s → conjugate_to s t (pair_number s (ext_conjugate s (over i) (pair_at s t))) ≡ true
  reached_conjugate t i below place =
      let at_t = pair_below s twist t below in
      let carried : Pair = ext_conjugate s (over i) (pair_at s t) in
      let at_carried = conjugate_pair s twist (over i) (pair_at s t) (over_pair i place) at_t in
      ap (λ a. are_conjugate s a (pair_at s t)) (pair_of_number s twist carried at_carried)
      ∙ conjugate_back s twist (pair_at s t) carried at_t at_carried (conjugate_by s twist (pair_at s t) carried (over i) (over_pair i place) refl)

  pub reached_more : (t i u v : ℕ) → t < pair_count s → i < size s → v ≡ pair_number s (ext_conjugate s (over i) (pair_at s t))
      → IsLeastReached s t i u → IsLeastReached s t (i + 1) (min u v)
  reached_more t i u v below place e h = record {
    below = omega (arith, h.below);
    at_most = omega (arith, h.at_most);
    conjugate = elim (cases_lt u v) [
      | inl less ↦ (let at : min u v ≡ u = omega arith in rw at h.conjugate)
      | inr more ↦ (let at : min u v ≡ v = omega arith in rw (at, e) (reached_conjugate t i below place))
    ];
    least = below_more (λ c. min u v ≤ pair_number s (ext_conjugate s (over c) (pair_at s t))) i
        (λ c less. omega (arith, h.least c less))
        (omega (arith, e));
  }

  -- the least of all is the first of the class
  pub reached_first : (t u : ℕ) → t < pair_count s → IsLeastReached s t (size s) u → u ≡ first_of_class s t
  reached_first t u below h =
      first_unique s twist t u below
      (record {
        below = h.below;
        passes = h.conjugate;
        least = λ j j_below e.
            let at_t = pair_below s twist t below in
            let at_j = pair_below s twist j j_below in
            let found = carrier_of s twist (pair_at s t) (pair_at s j) (conjugate_back s twist (pair_at s j) (pair_at s t) at_j at_t e) in
            let there : pair_number s (ext_conjugate s (over found.0.place) (pair_at s t)) ≡ j =
            ap (pair_number s) (sym (conjugate_by_place found.0 (pair_at s t) found.1 at_t) ∙ found.2) ∙ number_of_pair s twist j in
            let least : u ≤ pair_number s (ext_conjugate s (over found.0.place) (pair_at s t)) = h.least found.0.place found.1.place_below in
            omega (arith, there, least);
      })
