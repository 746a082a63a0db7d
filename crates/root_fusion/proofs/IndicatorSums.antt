-- Sums of indicators: of small numbers they fit, and the numbers of simples by good tables are small.
use Rattle.root_fusion.proofs.Names.{◌≡◌, ℕ, zero, suc, ◌*◌, ◌/◌, ◌%◌, ◌^◌, ◌<◌, ◌≤◌, true, List, [], ◌∷◌, length, get_or, refl, sym, arith, le_trans, subst, zero-add, mul-le-mul, All, leb-true, div_below, mod_below, length-map-range_with_len, get_or-map-range_with_len, is_conductor, greatest_magnitude, SimplesOver, AreSimples, count, dimension_at, AreFusionNumbers, OfAllSimples, order_of, quotient_exponent, indicator_term, term_at, FormedOfRoots, whole_formed, turned_formed, multiplied_formed, listed_formed, dimensions, numbers_into, IsSmall, SmallSumsFit, IndicatorsFit}
use Rattle.std.proofs.lemmas.List.Elements.{All-from_get_or}
use Rattle.qd_ring.specs.Formed.{given, whole, multiplied}
use Rattle.root_fusion.proofs.Numbers.{dimensions_are_small, simples_are_few, numbers_are_small}

-- an element of a list of small numbers is small, and so is 0, which is met past its end
small_at : (numbers : List ℕ) (i : ℕ) → All IsSmall numbers → IsSmall (get_or numbers i 0)
small_at [] i small = omega arith
small_at (number ∷ rest) zero small = small 0 0 (omega arith)
small_at (number ∷ rest) (suc i) small = small_at rest i (λ j d below. small (suc j) d (omega (arith, below)))

abbrev million : ℕ
million = 1000000

pairs_fit : (r : ℕ) → IsSmall r → (r * r) * ((million * million) * million) ≤ greatest_magnitude
pairs_fit r small =
    let pairs = mul-le-mul small small in
    let same : (million * million) * million ≤ (million * million) * million = omega arith in
    le_trans (mul-le-mul pairs same)
    (leb-true ((million * million) * ((million * million) * million)) greatest_magnitude refl)

module _ (k : ℕ) (entry : is_conductor k ≡ true) (dims twists : List ℕ) (m : ℕ) (dims_small : All IsSmall dims) where
  term_formed : (number i j : ℕ) → IsSmall number → FormedOfRoots ((million * million) * million) (indicator_term k dims twists m number i j)
  term_formed number i j small =
      let first = get_or dims i 0 in
      let second = get_or dims j 0 in
      let pair = multiplied k (given k (whole k number)) (given k (whole k first)) in
      let pair_formed =
      multiplied_formed k entry million million (given k (whole k number)) (given k (whole k first)) (leb-true (suc (million * million)) (2 ^ 108) refl)
      (whole_formed k entry number million small) (whole_formed k entry first million (small_at dims i dims_small)) in
      turned_formed k entry ((million * million) * million) (multiplied k pair (given k (whole k second)))
      (leb-true ((million * million) * million) greatest_magnitude refl)
      (multiplied_formed k entry (million * million) million pair (given k (whole k second)) (leb-true (suc ((million * million) * million)) (2 ^ 108) refl) pair_formed
      (whole_formed k entry second million (small_at dims j dims_small)))
      (quotient_exponent k m (get_or twists i 0) (get_or twists j 0))

pub small_sums_fit : SmallSumsFit
small_sums_fit k entry plane dims twists m few dims_small plane_small =
    let r = length dims in
    (listed_formed k entry (r * r) ((million * million) * million) (term_at k plane dims twists m) (pairs_fit r few)
    (λ q below. term_formed k entry dims twists m dims_small (get_or plane q 0) (q / r) (q % r) (small_at plane q plane_small))).fits

module _ (k : ℕ) (s : SimplesOver) (S : AreSimples k s) where
  order_small : order_of s ≤ 60
  order_small = S.cocycle.cochain.small.to_sixty

  dimension_small : (i : ℕ) → i < count k s → dimension_at k s i ≤ 60
  dimension_small i below = let within = (dimensions_are_small k s S i below).1 in omega (arith, within, order_small)

  few : IsSmall (count k s)
  few = let within = simples_are_few k s S in let square = mul-le-mul order_small order_small in omega (arith, within, square)

  dims_length : length (dimensions k s) ≡ count k s
  dims_length = length-map-range_with_len (dimension_at k s) 0 (count k s)

  dims_small : All IsSmall (dimensions k s)
  dims_small =
      All-from_get_or IsSmall (dimensions k s) 0
      (λ i below.
      let i_below : i < count k s = rw dims_length at below in
      let small = dimension_small i i_below in
      subst IsSmall (sym (get_or-map-range_with_len (dimension_at k s) 0 (count k s) i i 0 i_below (zero-add i))) (omega (arith, small)))

  module _ (number : ℕ → ℕ → ℕ → ℕ) (numbers : AreFusionNumbers k s number) (l : ℕ) (l_below : l < count k s) where
    number_small : (i j : ℕ) → i < count k s → j < count k s → IsSmall (number i j l)
    number_small i j i_below j_below =
        let within = numbers_are_small k s S number numbers i j l i_below j_below l_below in
        let product = mul-le-mul (dimension_small i i_below) (dimension_small j j_below) in
        omega (arith, within, product)

    abbrev number_at : ℕ → ℕ
    number_at q = number (q / count k s) (q % count k s) l

    plane_small : All IsSmall (numbers_into k s number l)
    plane_small =
        let some : 0 < count k s = omega (arith, l_below) in
        All-from_get_or IsSmall (numbers_into k s number l) 0
        (λ q below.
        let q_below : q < count k s * count k s = rw (length-map-range_with_len number_at 0 (count k s * count k s)) at below in
        subst IsSmall (sym (get_or-map-range_with_len number_at 0 (count k s * count k s) q q 0 q_below (zero-add q)))
        (number_small (q / count k s) (q % count k s) (div_below q (count k s) (count k s) some q_below) (mod_below q (count k s) some)))

pub indicators_fit : OfAllSimples IndicatorsFit
indicators_fit k s S number numbers l l_below twists m =
    small_sums_fit k S.conductor (numbers_into k s number l) (dimensions k s) twists m (subst IsSmall (sym (dims_length k s S)) (few k s S)) (dims_small k s S)
    (plane_small k s S number numbers l l_below)
