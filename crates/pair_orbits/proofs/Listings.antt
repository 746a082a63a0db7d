-- The list of commuting pairs has the properties of Listing.
use Rattle.pair_orbits.proofs.Names.{◌≡◌, ℕ, ◌+◌, ◌*◌, ◌<◌, ◌≤◌, ◌&&◌, true, length, get_or, refl, sym, ap, ap₂, ◌∙◌, arith, inl, inr, eq-eqb, eqb-true, subst, fun_ext, mul-one, cases_lt, row_fits, length-map, get_or-map, get_or_default, and_true, Table, product, IsGroup, passing_below, IsPassing, passing_below-all, passing_below-contains, passing_below-ascending, conjugate, conjugate_below, OfListedPairs, IsInvariant, passing_length, pair_number, first_of, second_of, is_commuting, conjugate_pair, conjugates_of, is_least, least_pairs, weighted_pair, listed_pairs, commuting_pairs_of}
use mathlib.Core.Logic.{◌⊎◌}
use Rattle.std.specs.Prelude.{List, sum_by}
use Rattle.std.proofs.lemmas.List.Elements.{All-get_or}
use Rattle.pair_orbits.specs.Listing.{no_pair, pair_at, Carries, AreCommuting, AreLeast, CoverCommuting, AreListedOnce, Ascend, HoldWeights}
use Rattle.pair_orbits.proofs.Actions.{pair_below, first_is, second_is, pair_is, conjugate_pair_is, first_below, second_below, first_carried, second_carried, pair_carrier, pair_conjugate_by, pair_sym, commuting_conjugate}
use Rattle.pair_orbits.proofs.Least.{least_at, least_conjugate, least_conjugate_is, least_conjugate_least, least_unique}
use Rattle.pair_orbits.proofs.Stabilisers.{conjugates_positive}
use Rattle.pair_orbits.proofs.Passing.{passing_total}
use Rattle.pair_orbits.proofs.Sums.{is_listed, size_by_orbits}

-- numbers in the order of rows and places
row_at_most : (a x b y n : ℕ) → a * n + x ≤ b * n + y → y < n → a ≤ b
row_at_most a x b y n most y_below = elim (cases_lt b a) [
  | inl less ↦ absurd (let fits = row_fits b n a n less (omega arith) in omega (arith, fits, most, y_below))
  | inr few ↦ few
]

place_at_most : (a x b y n : ℕ) → a * n + x ≤ b * n + y → b ≡ a → x ≤ y
place_at_most a x b y n most same = let rows : b * n ≡ a * n = ap (λ r. r * n) same in omega (arith, most, rows)

row_less : (a x b y n : ℕ) → a * n + x < b * n + y → x < n → y < n → (a < b) ⊎ ((a ≡ b) × (x < y))
row_less a x b y n less x_below y_below = elim (cases_lt a b) [
  | inl before ↦ inl before
  | inr after ↦
      let few : a ≤ b = row_at_most a x b y n (omega (arith, less)) y_below in
      let same : a ≡ b = omega (arith, few, after) in
      let rows : a * n ≡ b * n = ap (λ r. r * n) same in
      inr (same, omega (arith, less, rows))
]

module _ (t : Table) where
  -- the number of the pair at a place
  pub number_at : ℕ → ℕ
  number_at m = get_or (least_pairs t) m 0

  pub listed_count : length (listed_pairs t) ≡ length (least_pairs t)
  listed_count = length-map (least_pairs t) (weighted_pair t)

  pub pair_at_is : (m : ℕ) → m < length (listed_pairs t) → pair_at (listed_pairs t) m ≡ weighted_pair t (number_at m)
  unfolding number_at
  pair_at_is m inside = get_or-map (weighted_pair t) (least_pairs t) m 0 no_pair (omega (arith, inside, listed_count))

  passing_at : (m : ℕ) → m < length (listed_pairs t) → IsPassing (t.order * t.order) (is_listed t) (number_at m)
  unfolding least_pairs number_at
  passing_at m inside =
      All-get_or (IsPassing (t.order * t.order) (is_listed t)) (passing_below (t.order * t.order) (is_listed t)) m 0 (omega (arith, inside, listed_count))
      (passing_below-all (t.order * t.order) (is_listed t))

  pub number_below : (m : ℕ) → m < length (listed_pairs t) → number_at m < t.order * t.order
  number_below m inside = (passing_at m inside).below

  pub number_commutes : (m : ℕ) → m < length (listed_pairs t) → is_commuting t (number_at m) ≡ true
  number_commutes m inside = (and_true (is_commuting t (number_at m)) (is_least t (number_at m)) (passing_at m inside).passes).0

  pub number_least : (m : ℕ) → m < length (listed_pairs t) → is_least t (number_at m) ≡ true
  number_least m inside = (and_true (is_commuting t (number_at m)) (is_least t (number_at m)) (passing_at m inside).passes).1

  numbers_ascend : (m l : ℕ) → m < l → l < length (listed_pairs t) → number_at m < number_at l
  unfolding least_pairs number_at
  numbers_ascend m l less inside = passing_below-ascending (t.order * t.order) (is_listed t) m l less (omega (arith, inside, listed_count))

  -- places with one number are one
  numbers_differ : (m l : ℕ) → m < length (listed_pairs t) → l < length (listed_pairs t) → number_at m ≡ number_at l → m ≡ l
  numbers_differ m l m_inside l_inside same = elim (cases_lt m l) [
    | inl less ↦ absurd (let a = numbers_ascend m l less l_inside in omega (arith, a, same))
    | inr more ↦ elim (cases_lt l m) [
      | inl less ↦ absurd (let a = numbers_ascend l m less m_inside in omega (arith, a, same))
      | inr few ↦ omega (arith, more, few)
    ]
  ]

  -- a listed number has a place
  number_found : (p : ℕ) → p < t.order * t.order → is_commuting t p ≡ true → is_least t p ≡ true → (m : ℕ) × (m < length (listed_pairs t)) × (number_at m ≡ p)
  unfolding least_pairs number_at
  number_found p below commutes least =
      let (m, inside, at) = passing_below-contains (t.order * t.order) p (is_listed t) below (ap₂ (λ a b. a && b) commutes least) in
      (m, omega (arith, inside, listed_count), get_or_default (passing_below (t.order * t.order) (is_listed t)) m 0 p inside ∙ at)

pub listed_commute : OfListedPairs AreCommuting
listed_commute t G = record {
  first_below = λ m inside. rw (pair_at_is t m inside) (first_below t G (number_at t m) (number_below t m inside));
  second_below = λ m inside. rw (pair_at_is t m inside) (second_below t G (number_at t m));
  commute = λ m inside. rw (pair_at_is t m inside) (eqb-true _ _ (number_commutes t m inside));
}

module _ (t : Table) (G : IsGroup t) (p c : ℕ) (p_below : p < t.order * t.order) (c_below : c < t.order) (least : is_least t p ≡ true) where
  least_number : pair_number t (first_of t p) (second_of t p) ≤ pair_number t (conjugate t c (first_of t p)) (conjugate t c (second_of t p))
  least_number = let most = least_at t p c least c_below in let is = conjugate_pair_is t c p in let whole = pair_is t p in omega (arith, most, is, whole)

  first_least_at : first_of t p ≤ conjugate t c (first_of t p)
  first_least_at =
      row_at_most (first_of t p) (second_of t p) (conjugate t c (first_of t p)) (conjugate t c (second_of t p)) t.order least_number
      (conjugate_below t G c (second_of t p) c_below (second_below t G p))

  second_least_at : conjugate t c (first_of t p) ≡ first_of t p → second_of t p ≤ conjugate t c (second_of t p)
  second_least_at same =
      place_at_most (first_of t p) (second_of t p) (conjugate t c (first_of t p)) (conjugate t c (second_of t p)) t.order least_number same

pub listed_least : OfListedPairs AreLeast
listed_least t G = record {
  first_least = λ m c inside c_below.
      rw (pair_at_is t m inside) (first_least_at t G (number_at t m) c (number_below t m inside) c_below (number_least t m inside));
  second_least = λ m c inside c_below.
      rw (pair_at_is t m inside) (second_least_at t G (number_at t m) c (number_below t m inside) c_below (number_least t m inside));
}

-- the pair p is carried to g and h
carries_by_number : (t : Table) → IsGroup t → (c p q : ℕ) → c < t.order → conjugate_pair t c p ≡ q → Carries t c (weighted_pair t p) (first_of t q) (second_of t q)
carries_by_number t G c p q below carries = record {
  below = below;
  first = sym (first_carried t G c p below) ∙ ap (first_of t) carries;
  second = sym (second_carried t G c p below) ∙ ap (second_of t) carries;
}

number_by_carries : (t : Table) (c p g h : ℕ) → Carries t c (weighted_pair t p) g h → conjugate_pair t c p ≡ pair_number t g h
number_by_carries t c p g h carries = conjugate_pair_is t c p ∙ ap₂ (pair_number t) carries.first carries.second

pub listed_cover : OfListedPairs CoverCommuting
listed_cover t G = record {
  cover = λ g h g_below h_below commutes.
      let p = pair_number t g h in
      let p_below = pair_below t g h g_below h_below in
      let g_is = first_is t g h h_below in
      let h_is = second_is t g h h_below in
      let commuting : is_commuting t p ≡ true = eq-eqb _ _ (ap₂ (product t) g_is h_is ∙ commutes ∙ sym (ap₂ (product t) h_is g_is)) in
      let least = least_conjugate_is t G p p_below in
      let (m, inside, at) = number_found t (least_conjugate t p) least.below (commuting_conjugate t G p (least_conjugate t p) p_below least.passes commuting) (least_conjugate_least t G p p_below) in
      let (c, c_below, carries) = pair_carrier t G (least_conjugate t p) p (pair_sym t G p (least_conjugate t p) p_below least.passes) in (
        m,
        inside,
        (
          c,
          subst (λ pair. Carries t c pair g h) (sym (pair_at_is t m inside ∙ ap (weighted_pair t) at))
              (subst (λ x. Carries t c (weighted_pair t (least_conjugate t p)) x h) g_is
              (subst (λ y. Carries t c (weighted_pair t (least_conjugate t p)) (first_of t p) y) h_is
              (carries_by_number t G c (least_conjugate t p) p c_below carries))),
        ),
      );
}

unique_at : (t : Table) → IsGroup t → (m l c : ℕ) → m < length (listed_pairs t) → l < length (listed_pairs t)
    → Carries t c (weighted_pair t (number_at t m)) (first_of t (number_at t l)) (second_of t (number_at t l)) → m ≡ l
unique_at t G m l c m_inside l_inside carries =
    numbers_differ t m l m_inside l_inside
    (least_unique t G (number_at t m) (number_at t l) (number_below t m m_inside) (number_least t m m_inside) (number_least t l l_inside)
    (pair_conjugate_by t G (number_at t m) (number_at t l) c carries.below
    (number_by_carries t c (number_at t m) (first_of t (number_at t l)) (second_of t (number_at t l)) carries ∙ pair_is t (number_at t l))))

pub listed_once : OfListedPairs AreListedOnce
listed_once t G = record {
  unique = λ m l c m_inside l_inside carries.
      unique_at t G m l c m_inside l_inside
      (subst (λ pair. Carries t c pair (first_of t (number_at t l)) (second_of t (number_at t l))) (pair_at_is t m m_inside)
      (subst (λ pair. Carries t c (pair_at (listed_pairs t) m) pair.g pair.h) (pair_at_is t l l_inside) carries));
}

pub listed_ascend : OfListedPairs Ascend
listed_ascend t G = record {
  ascend = λ m l less inside.
      let m_inside : m < length (listed_pairs t) = omega (arith, less, inside) in
      let a = number_at t m in
      let b = number_at t l in
      let first = numbers_ascend t m l less inside in
      let a_is = pair_is t a in
      let b_is = pair_is t b in
      subst (λ pair. (pair.g < (pair_at (listed_pairs t) l).g) ⊎ ((pair.g ≡ (pair_at (listed_pairs t) l).g) × (pair.h < (pair_at (listed_pairs t) l).h)))
      (sym (pair_at_is t m m_inside))
      (subst (λ pair. (first_of t a < pair.g) ⊎ ((first_of t a ≡ pair.g) × (second_of t a < pair.h))) (sym (pair_at_is t l inside))
      (row_less (first_of t a) (second_of t a) (first_of t b) (second_of t b) t.order (omega (arith, first, a_is, b_is)) (second_below t G a) (second_below t G b)));
}

ones : (t : Table) → IsInvariant {A = ℕ} t (λ g h. 1)
ones t = record { same = λ c g h c_below g_below h_below commutes. refl }

sum_by_same : {X : Type 0} (f g : X → ℕ) (xs : List X) → ((x : X) → f x ≡ g x) → sum_by f xs ≡ sum_by g xs
sum_by_same f g xs same = ap (λ e. sum_by e xs) (fun_ext same)

sum_of_ones : (t : Table) → sum_by (λ p. 1) (commuting_pairs_of t) ≡ length (commuting_pairs_of t)
unfolding commuting_pairs_of
sum_of_ones t =
    let N = t.order * t.order in
    passing_total N (is_commuting t) (λ p. 1) ∙ sym (passing_length N (is_commuting t))

pub listed_weights : OfListedPairs HoldWeights
listed_weights t G = record {
  weights = λ m inside.
      rw (pair_at_is t m inside) (ap (λ p. length (conjugates_of t p)) (sym (pair_is t (number_at t m))));
  total =
      sum_by_same (λ pair. pair.weight) (λ pair. pair.weight * 1) (listed_pairs t) (λ pair. sym (mul-one pair.weight))
      ∙ sym (size_by_orbits t G (λ g h. 1) (ones t)) ∙ sum_of_ones t;
}

-- each weight is from 1 on
pub weight_positive : (t : Table) → IsGroup t → (m : ℕ) → m < length (listed_pairs t) → 0 < (pair_at (listed_pairs t) m).weight
weight_positive t G m inside = rw (pair_at_is t m inside) (conjugates_positive t G (number_at t m) (number_below t m inside))
