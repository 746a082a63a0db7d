-- Full characters, characters of tensor products and fusion sums of simples whose values are sums of few roots of unity: all of them fit.
use Rattle.root_fusion.proofs.Names.{◌≡◌, ℕ, ◌*◌, ◌/◌, ◌%◌, ◌<◌, ◌≤◌, ◌==◌, true, refl, arith, le_trans, unwrap_or, mul-le-mul, leb-true, greatest_magnitude, Formed, given, conjugated, multiplied, where_so, SimplesOver, AreSimples, count, class_at, simple_at, over_at, root_exponent, element_value, carried_value, full_character, commute, left_quotient, tensor_term, tensor_character, fusion_sum, simple_is_row, over_is_twist, place_small, FormedOfRoots, of_roots, conjugated_formed, turned_formed, multiplied_formed, where_formed, listed_formed, few_fit, few_together, OfRootSimples, CharactersFit, CharactersAreRootSums, TensorProductsFit, FusionSumsFit}
use Rattle.classes.specs.Conjugacy.{class_of, transporter_of}
use Rattle.twisted.specs.Twist.{size, element, place_of}
use Rattle.twisted.proofs.Places.{place_there}
use Rattle.slant.specs.Phases.{carried, transport_phase, gamma}
use Rattle.root_tables.specs.RootRows.{HasRootRows}
use Rattle.root_tables.proofs.TableRoots.{degree_few}

-- the roots of a sum over all pairs
pairs_fit : (n : ℕ) → n ≤ 60 → (n * n) * ((n * 49) * 7) ≤ greatest_magnitude
pairs_fit n small =
    let pairs = mul-le-mul small small in
    let each : (n * 49) * 7 ≤ 20580 = omega (arith, small) in
    le_trans (mul-le-mul pairs each) (leb-true ((60 * 60) * 20580) greatest_magnitude refl)

module _ (k : ℕ) (s : SimplesOver) (S : AreSimples k s) (roots : HasRootRows k s) where
  order_small : s.cocycle.group.order ≤ 60
  order_small = S.cocycle.cochain.small.to_sixty

  element_formed : (i x : ℕ) → i < count k s → FormedOfRoots 7 (given k (element_value k s i x))
  element_formed i x i_below =
      let at = simple_is_row k s.tables i i_below in
      let twist = over_is_twist k s S (class_at k s i) at.class_below in
      let row = (roots (class_at k s i) at.class_below).row (simple_at k s i).row at.row_below in
      let found = place_of (over_at k s i) x in
      let place = place_there (over_at k s i) x found refl in
      of_roots k S.conductor row.degree 7 (element_value k s i x) (degree_few row.degree (size (over_at k s i)) row.square twist.small.to_sixty)
      (row.roots (unwrap_or found 0) (place_small (over_at k s i) (λ p. element (over_at k s i) p ≡ x) found (unwrap_or found 0) twist place refl))

  full_formed : (i g x : ℕ) → i < count k s → FormedOfRoots 7 (full_character k s i g x)
  full_formed i g x i_below =
      where_formed k S.conductor (class_of s.cocycle.group g == class_at k s i) 7 (carried_value k s i g x (transporter_of s.cocycle.group g))
      (turned_formed k S.conductor 7 (given k (element_value k s i (carried s.cocycle.group x (transporter_of s.cocycle.group g)))) (few_fit 7 (omega arith))
      (element_formed i (carried s.cocycle.group x (transporter_of s.cocycle.group g)) i_below)
      (root_exponent k s.cocycle (transport_phase s.cocycle g x (transporter_of s.cocycle.group g))))

  module _ (i j : ℕ) (i_below : i < count k s) (j_below : j < count k s) where
    tensor_term_formed : (g x h : ℕ) → FormedOfRoots 49 (tensor_term k s i j g x h)
    tensor_term_formed g x h =
        let other = left_quotient s.cocycle.group h g in
        turned_formed k S.conductor 49 (multiplied k (full_character k s i h x) (full_character k s j other x)) (few_fit 49 (omega arith))
        (multiplied_formed k S.conductor 7 7 (full_character k s i h x) (full_character k s j other x) (few_together 49 (omega arith)) (full_formed i h x i_below)
        (full_formed j other x j_below)) (root_exponent k s.cocycle (gamma s.cocycle x h other))

    tensor_formed : (g x : ℕ) → FormedOfRoots (s.cocycle.group.order * 49) (tensor_character k s i j g x)
    tensor_formed g x =
        listed_formed k S.conductor s.cocycle.group.order 49 (λ h. where_so k (commute s.cocycle.group h x) (tensor_term k s i j g x h))
        (few_fit (s.cocycle.group.order * 49) (omega (arith, order_small)))
        (λ h below. where_formed k S.conductor (commute s.cocycle.group h x) 49 (tensor_term k s i j g x h) (tensor_term_formed g x h))

    module _ (l : ℕ) (l_below : l < count k s) where
      abbrev inner_term : ℕ → ℕ → Formed k
      inner_term g x = multiplied k (tensor_character k s i j g x) (conjugated k (full_character k s l g x))

      inner_term_formed : (g x : ℕ) → FormedOfRoots ((s.cocycle.group.order * 49) * 7) (inner_term g x)
      inner_term_formed g x =
          multiplied_formed k S.conductor (s.cocycle.group.order * 49) 7 (tensor_character k s i j g x) (conjugated k (full_character k s l g x))
          (few_together ((s.cocycle.group.order * 49) * 7) (omega (arith, order_small))) (tensor_formed g x)
          (conjugated_formed k S.conductor 7 (full_character k s l g x) (few_fit 7 (omega arith)) (full_formed l g x l_below))

      fusion_sum_fits : (fusion_sum k s i j l).fits ≡ true
      fusion_sum_fits =
          let n = s.cocycle.group.order in
          (listed_formed k S.conductor (n * n) ((n * 49) * 7) (λ p. where_so k (commute s.cocycle.group (p / n) (p % n)) (inner_term (p / n) (p % n)))
          (pairs_fit n order_small)
          (λ p below. where_formed k S.conductor (commute s.cocycle.group (p / n) (p % n)) ((n * 49) * 7) (inner_term (p / n) (p % n))
          (inner_term_formed (p / n) (p % n)))).fits

pub characters_fit : OfRootSimples CharactersFit
characters_fit k s S roots i g x i_below = (full_formed k s S roots i g x i_below).fits

pub characters_are_root_sums : OfRootSimples CharactersAreRootSums
characters_are_root_sums k s S roots i g x i_below = let value = (full_formed k s S roots i g x i_below).value in (value.count, (value.within, value.roots))

pub tensor_products_fit : OfRootSimples TensorProductsFit
tensor_products_fit k s S roots i j g x i_below j_below = (tensor_formed k s S roots i j i_below j_below g x).fits

pub fusion_sums_fit : OfRootSimples FusionSumsFit
fusion_sums_fit k s S roots i j l i_below j_below l_below = fusion_sum_fits k s S roots i j i_below j_below l l_below
