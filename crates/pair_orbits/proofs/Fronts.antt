-- The pairs below a number that are listed, one number after the other.
use Rattle.pair_orbits.proofs.Names.{◌≡◌, ℕ, ◌+◌, ◌*◌, ◌≤◌, true, false, List, [], ◌∷◌, ◌++◌, length, map, refl, sym, ap, ◌∙◌, arith, map-append, length-map, mul-le-mul, Table, passing_below, passing_below-zero, passing_below-passes, passing_below-fails, length-passing_below, least_pairs, weighted_pair, listed_pairs}
use Rattle.pair_orbits.specs.declared.pair.Pair.{Pair}
use Rattle.pair_orbits.proofs.Sums.{is_listed}

module _ (t : Table) where
  -- the listed pairs below p
  abbrev pub front : ℕ → List Pair
  front p = map (weighted_pair t) (passing_below p (is_listed t))

  pub front_none : front 0 ≡ []
  front_none = ap (map (weighted_pair t)) (passing_below-zero (is_listed t))

  pub front_more : (p : ℕ) → is_listed t p ≡ true → front p ++ weighted_pair t p ∷ [] ≡ front (p + 1)
  front_more p listed =
      sym (ap (map (weighted_pair t)) (passing_below-passes p (is_listed t) listed) ∙ map-append (weighted_pair t) (passing_below p (is_listed t)) (p ∷ []))

  pub front_same : (p : ℕ) → is_listed t p ≡ false → front p ≡ front (p + 1)
  front_same p other = sym (ap (map (weighted_pair t)) (passing_below-fails p (is_listed t) other))

  pub front_all : front (t.order * t.order) ≡ listed_pairs t
  unfolding least_pairs
  front_all = refl

  -- there are few
  pub front_few : (p : ℕ) → length (front p) ≤ p
  front_few p =
      let count = length-map (passing_below p (is_listed t)) (weighted_pair t) in
      let most = length-passing_below p (is_listed t) in
      omega (arith, count, most)

-- the square of an order
pub square_small : (n : ℕ) → n ≤ 60 → n * n ≤ 3600
square_small n small = mul-le-mul small small
