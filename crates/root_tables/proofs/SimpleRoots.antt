-- The numerators of S of simples whose values are sums of few roots of unity: all of them fit.
use Rattle.root_tables.proofs.Names.{◌≡◌, ℕ, ◌*◌, ◌/◌, ◌%◌, ◌<◌, ◌==◌, true, refl, arith, unwrap_or, mul-le-mul, class_of, transporter_of, size, element, place_of, given, conjugated, where_so, HasRootRows, RootSimplesFit}
use Rattle.group_table.specs.Group.{commute}
use Rattle.twisted.proofs.Places.{place_there}
use Rattle.slant.specs.Phases.{carried, transport_phase}
use Rattle.transport.specs.Simples.{SimplesOver, AreSimples, count, class_at, simple_at, over_at}
use Rattle.transport.specs.FullCharacters.{root_exponent, element_value, carried_value, full_character}
use Rattle.transport.specs.SSums.{pair_term, s_sum}
use Rattle.transport.proofs.Listed.{simple_is_row, over_is_twist, place_small}
use Rattle.root_tables.proofs.FormedRoots.{FormedOfRoots, of_roots, conjugated_formed, turned_formed, multiplied_formed, where_formed, listed_formed, few_fit, few_together}
use Rattle.root_tables.proofs.TableRoots.{degree_few}

module _ (k : ℕ) (s : SimplesOver) (S : AreSimples k s) (roots : HasRootRows k s) where
  element_formed : (i x : ℕ) → i < count k s → FormedOfRoots 7 (given k (element_value k s i x))
  element_formed i x i_below =
      let at = simple_is_row k s.tables i i_below in
      let twist = over_is_twist k s S (class_at k s i) at.class_below in
      let row = (roots (class_at k s i) at.class_below).row (simple_at k s i).row at.row_below in
      let found = place_of (over_at k s i) x in
      let place = place_there (over_at k s i) x found refl in
      of_roots k S.conductor row.degree 7 (element_value k s i x) (degree_few row.degree (size (over_at k s i)) row.square twist.small.to_sixty)
      (row.roots (unwrap_or found 0) (place_small (over_at k s i) (λ p. element (over_at k s i) p ≡ x) found (unwrap_or found 0) twist place refl))

  full_formed : (i g x : ℕ) → i < count k s → FormedOfRoots 7 (full_character k s i g x)
  full_formed i g x i_below =
      where_formed k S.conductor (class_of s.cocycle.group g == class_at k s i) 7 (carried_value k s i g x (transporter_of s.cocycle.group g))
      (turned_formed k S.conductor 7 (given k (element_value k s i (carried s.cocycle.group x (transporter_of s.cocycle.group g)))) (few_fit 7 (omega arith))
      (element_formed i (carried s.cocycle.group x (transporter_of s.cocycle.group g)) i_below)
      (root_exponent k s.cocycle (transport_phase s.cocycle g x (transporter_of s.cocycle.group g))))

  conjugate_formed : (i g x : ℕ) → i < count k s → FormedOfRoots 7 (conjugated k (full_character k s i g x))
  conjugate_formed i g x i_below = conjugated_formed k S.conductor 7 (full_character k s i g x) (few_fit 7 (omega arith)) (full_formed i g x i_below)

  numerator_fits : (i j : ℕ) → i < count k s → j < count k s → (s_sum k s i j).fits ≡ true
  numerator_fits i j i_below j_below =
      let n = s.cocycle.group.order in
      let pairs = mul-le-mul S.cocycle.cochain.small.to_sixty S.cocycle.cochain.small.to_sixty in
      (listed_formed k S.conductor (n * n) 49 (λ p. where_so k (commute s.cocycle.group (p / n) (p % n)) (pair_term k s i j (p / n) (p % n)))
      (few_fit (n * n * 49) (omega (arith, pairs)))
      (λ p below. where_formed k S.conductor (commute s.cocycle.group (p / n) (p % n)) 49 (pair_term k s i j (p / n) (p % n))
      (multiplied_formed k S.conductor 7 7 (conjugated k (full_character k s i (p / n) (p % n))) (conjugated k (full_character k s j (p % n) (p / n)))
      (few_together 49 (omega arith)) (conjugate_formed i (p / n) (p % n) i_below) (conjugate_formed j (p % n) (p / n) j_below)))).fits

pub root_simples_fit : RootSimplesFit
root_simples_fit k s S roots i j i_below j_below = numerator_fits k s S roots i j i_below j_below
