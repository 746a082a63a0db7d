-- Places that are least in their class, and the lists and numbers of those that are regular.
use Rattle.std.proofs.Common.{◌≡◌, ℕ, zero, suc, ◌+◌, ◌<◌, ◌≤◌, Bool, true, false, ◌&&◌, cond, nat_eq, nat_le, List, [], ◌∷◌, ◌++◌, length, refl, sym, ◌∙◌, ap, arith, eq-eqb, eqb-true}
use Rattle.twisted.proofs.Names.{leb-true, le-leb, filter, filter-append, append-nil, TwistedSubgroup, size, phase, IsTwist, passing_below, passing_below-passes, passing_below-fails, passing_below-zero, where_asked, all_below, all_below-all, all_below-at, and_true, Table, product, identity_of, IsGroup, same_test, carrier, conjugate_by, conjugate_refl, conjugate_sym, conjugate_below, representative_least}
use Rattle.std.proofs.lemmas.List.Sums.{length-filter}
use Rattle.group_table.proofs.Numbers.{passing_below-suc}
use Rattle.classes.proofs.Conjugacy.{is_other}
use Rattle.twisted.specs.Regular.{is_symmetric_at, is_regular, regular_representatives, rank}
use Rattle.classes.specs.Conjugacy.{conjugate, representative_of, representatives, other_representatives}

-- p is least in its class exactly where no conjugate is lower
pub is_least_in_class : (t : Table) (p : ℕ) (b : Bool) → IsGroup t → p < t.order → b ≡ all_below t.order (λ c. nat_le p (conjugate t c p))
    → b ≡ nat_eq (representative_of t p) p
is_least_in_class t p b group below is =
    let least = representative_least t group p below in
    is
    ∙ same_test (all_below t.order (λ c. nat_le p (conjugate t c p))) (nat_eq (representative_of t p) p)
    (λ all.
    let (k, k_below, carries) = carrier t group p (representative_of t p) (conjugate_sym t group (representative_of t p) p least.below least.passes) in
    let most : p ≤ conjugate t k p = leb-true _ _ (all_below-at t.order k (λ c. nat_le p (conjugate t c p)) all k_below) in
    let least_here : representative_of t p ≤ p = least.least p below (conjugate_refl t group p below) in
    eq-eqb _ _ (omega (arith, carries)))
    (λ same.
    all_below-all t.order (λ c. nat_le p (conjugate t c p))
    (λ c c_below.
    let most : representative_of t p ≤ conjugate t c p =
    least.least (conjugate t c p) (conjugate_below t group c p c_below below) (conjugate_sym t group p (conjugate t c p) below (conjugate_by t group p (conjugate t c p) c c_below refl)) in
    le-leb p (conjugate t c p) (omega (arith, eqb-true _ _ same))))

-- the numbers of a list that pass, of those that pass another test
filter-passing_below : (n : ℕ) (test other : ℕ → Bool) → filter test (passing_below n other) ≡ passing_below n (λ p. other p && test p)
filter-passing_below zero test other = rw (passing_below-zero other) (sym (passing_below-zero (λ p. other p && test p)))
filter-passing_below (suc n) test other =
    rw (passing_below-suc n other, passing_below-suc n (λ p. other p && test p)) (push (other n) (test n) _ _ refl (filter-passing_below n test other))
  where
    push : (a b : Bool) (front rest : List ℕ) → test n ≡ b → filter test front ≡ rest → filter test (cond a (front ++ n ∷ []) front) ≡ cond (a && b) (rest ++ n ∷ []) rest
    push false b front rest t e = e
    push true true front rest t e = rw (filter-append, t, e) refl
    push true false front rest t e = rw (filter-append, t, e) (append-nil rest)

-- p represents a regular class other than that of the identity
abbrev pub is_other_regular : TwistedSubgroup → ℕ → Bool
is_other_regular s p = is_other s.group p && is_regular s p

-- how the list of these grows
pub ruleset grown = (passing_below-zero, passing_below-passes, passing_below-fails)

module _ (s : TwistedSubgroup) where
  -- the identity is regular
  pub identity_regular : IsTwist s → is_regular s (identity_of s.group) ≡ true
  unfolding is_regular
  identity_regular twist =
      all_below-all (size s) (is_symmetric_at s (identity_of s.group))
      (λ y below. where_asked _ _ (λ commutes. eq-eqb _ _ (twist.cocycle.at_identity_left y below ∙ sym (twist.cocycle.at_identity_right y below))))

  -- all of them, with the identity first
  pub regular_representatives_are : IsTwist s → regular_representatives s ≡ identity_of s.group ∷ passing_below (size s) (is_other_regular s)
  unfolding regular_representatives other_representatives
  regular_representatives_are twist = rw (identity_regular twist) (ap (λ r. identity_of s.group ∷ r) (filter-passing_below (size s) (is_regular s) (is_other s.group)))

  pub length-regular_representatives : length (regular_representatives s) ≡ rank s
  unfolding rank regular_representatives
  length-regular_representatives = length-filter (is_regular s) (representatives s.group)

  pub rank_is : IsTwist s → rank s ≡ 1 + length (passing_below (size s) (is_other_regular s))
  rank_is twist = sym length-regular_representatives ∙ ap length (regular_representatives_are twist) ∙ omega arith

-- as many as the rank
pub ruleset counted = (length-regular_representatives)
