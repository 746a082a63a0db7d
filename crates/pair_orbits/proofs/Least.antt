-- The least of the conjugates of a pair.
use Rattle.pair_orbits.proofs.Names.{◌≡◌, ℕ, ◌*◌, ◌<◌, ◌≤◌, Bool, true, false, not, nat_lt, Some, None, cond, refl, arith, unwrap_or, ltb-false, le-ltb, not_from_false, first, all_below-at, all_below-all, Table, IsGroup, IsLeastPassing, least_passing, least_passing_found, conjugate_pair, are_conjugate, is_least}
use Rattle.pair_orbits.proofs.Actions.{pair_carrier, pair_conjugate_by, pair_refl, pair_sym, pair_trans, carried_below}

false_of_not : (b : Bool) → not b ≡ true → b ≡ false
false_of_not true e = absurd cc
false_of_not false e = refl

module _ (t : Table) where
  -- a pair that is least, and its conjugates
  pub least_at : (p c : ℕ) → is_least t p ≡ true → c < t.order → p ≤ conjugate_pair t c p
  unfolding is_least
  least_at p c least below =
      ltb-false (conjugate_pair t c p) p (false_of_not _ (all_below-at t.order c (λ c. not (nat_lt (conjugate_pair t c p) p)) least below))

  pub least_by : (p : ℕ) → ((c : ℕ) → c < t.order → p ≤ conjugate_pair t c p) → is_least t p ≡ true
  unfolding is_least
  least_by p each =
      all_below-all t.order (λ c. not (nat_lt (conjugate_pair t c p) p))
      (λ c below. not_from_false _ (le-ltb (conjugate_pair t c p) p (each c below)))

  -- the least conjugate of p
  pub least_conjugate : ℕ → ℕ
  least_conjugate p = unwrap_or (first (t.order * t.order) (λ q. cond (are_conjugate t p q) (Some q) None)) 0

module _ (t : Table) (G : IsGroup t) where
  pub least_conjugate_is : (p : ℕ) → p < t.order * t.order → IsLeastPassing (t.order * t.order) (are_conjugate t p) (least_conjugate t p)
  unfolding least_conjugate
  least_conjugate_is p below =
      least_passing (t.order * t.order) (are_conjugate t p) _
      (least_passing_found (t.order * t.order) (are_conjugate t p) p below (pair_refl t G p below))

  -- it is least
  pub least_conjugate_least : (p : ℕ) → p < t.order * t.order → is_least t (least_conjugate t p) ≡ true
  least_conjugate_least p below =
      let least = least_conjugate_is p below in
      least_by t (least_conjugate t p)
      (λ c c_below.
      least.least (conjugate_pair t c (least_conjugate t p)) (carried_below t G c (least_conjugate t p) c_below least.below)
      (pair_trans t G p (least_conjugate t p) (conjugate_pair t c (least_conjugate t p)) below least.passes
      (pair_conjugate_by t G (least_conjugate t p) (conjugate_pair t c (least_conjugate t p)) c c_below refl)))

  -- pairs that are least and conjugate are one
  pub least_unique : (p q : ℕ) → p < t.order * t.order → is_least t p ≡ true → is_least t q ≡ true → are_conjugate t p q ≡ true → p ≡ q
  least_unique p q below p_least q_least conjugates =
      let (k, k_below, k_carries) = pair_carrier t G p q conjugates in
      let (l, l_below, l_carries) = pair_carrier t G q p (pair_sym t G p q below conjugates) in
      let there = least_at t p k p_least k_below in
      let back = least_at t q l q_least l_below in
      omega (arith, there, back, k_carries, l_carries)

  -- a least pair that is conjugate to p is the least conjugate
  pub least_conjugate_unique : (p q : ℕ) → p < t.order * t.order → q < t.order * t.order → is_least t q ≡ true → are_conjugate t q p ≡ true → q ≡ least_conjugate t p
  least_conjugate_unique p q p_below q_below q_least conjugates =
      let least = least_conjugate_is p p_below in
      least_unique q (least_conjugate t p) q_below q_least (least_conjugate_least p p_below)
      (pair_trans t G q p (least_conjugate t p) q_below conjugates least.passes)
