-- The centraliser of an element with the slant product is a twist.
use Rattle.slant.proofs.Names.{◌≡◌, ℕ, ◌+◌, ◌-◌, ◌*◌, ◌/◌, ◌%◌, ◌<◌, ◌≤◌, List, length, get_or, refl, sym, ap, ◌∙◌, arith, nat_eq, Table, product, IsGroup, IsSmall, length-passing_below, Cochain, IsCocycle, centraliser_exactly, length-by_pairs, row_below, column_below, listed_at, pair_at, Below, conj, element, same_value}
use mathlib.Core.Path.{ap₂}
use Rattle.algebra.specs.Congruences.{Same}
use Rattle.classes.specs.Conjugacy.{conjugate, centraliser_of}
use Rattle.classes.proofs.Carrying.{carry}
use Rattle.twisted.specs.Twist.{TwistedSubgroup, phase, size, IsTwist}
use Rattle.twisted.specs.Regular.{kappa as kappa_at_places}
use Rattle.slant.specs.Phases.{theta, kappa}
use Rattle.slant.specs.TwistLaws.{CentraliserIsTwist, ElementsCommute, ProductsAgree, IdentitiesAgree, InversesAgree, PhasesAgree, KappasAgree}
use Rattle.group_table.specs.Numbers.{by_pairs}
use Rattle.slant.specs.Twists.{table_of, phase_at, twist_over, twist_of}
use Rattle.slant.proofs.Instances.{phases_below, theta_normalised, theta_associative}
use Rattle.slant.proofs.Places.{element_at, commutes, ascending, own, places_lawful, place_group, at_product, at_identity, at_inverse, at_conjugate}

few_centralise : (t : Table) (a : ℕ) → length (centraliser_of t a) ≤ t.order
unfolding centraliser_of
few_centralise t a = length-passing_below t.order (λ x. nat_eq (product t x a) (product t a x))

module _ (w : Cochain) (W : IsCocycle w) (a : ℕ) (a_below : a < w.group.order) where
  abbrev T : IsGroup w.group
  T = W.cochain.group

  abbrev A : Below w.group.order
  A = element a a_below

  abbrev here : TwistedSubgroup
  here = twist_over w a (centraliser_of w.group a)

  abbrev at_place : Below (size here) → Below w.group.order
  at_place = element_at w.group T A

  phase_is : (p r : Below (size here)) → phase here p.value r.value ≡ theta w a (at_place p).value (at_place r).value
  phase_is p r = pair_at _ (phase_at w a (centraliser_of w.group a)) p.value r.value p.below r.below

  law : (p q r : Below (size here))
      → Same w.roots (phase here p.value q.value + phase here (product here.group p.value q.value) r.value) (phase here p.value (product here.group q.value r.value) + phase here q.value r.value)
  unfolding conj
  law p q r =
      let first = phase_is p q in
      let second = phase_is ((place_group w.group T A).op p q) r ∙ ap (λ (x : Below w.group.order). theta w a x.value (at_place r).value) (at_product w.group T A p q) in
      let third = phase_is p ((place_group w.group T A).op q r) ∙ ap (λ (x : Below w.group.order). theta w a (at_place p).value x.value) (at_product w.group T A q r) in
      let fourth = phase_is q r ∙ ap (λ (g : Below w.group.order). theta w g.value (at_place q).value (at_place r).value) (sym (commutes w.group T A p)) in
      rw (first, second, third, fourth)
      (theta_associative w W a (at_place p).value (at_place q).value (at_place r).value a_below (at_place p).below (at_place q).below (at_place r).below)

  pub twist_over_lawful : IsTwist here
  twist_over_lawful = record {
    group = places_lawful w.group T A;
    small = record { from_one = let some = (own w.group T A).0.below in omega (arith, some); to_sixty = omega (arith, few_centralise w.group a, W.cochain.small.to_sixty) };
    count = refl;
    ascending = ascending w.group T A;
    holds_at = ((own w.group T A).0.value, (own w.group T A).0.below, (own w.group T A).1);
    modulus = record { from_one = W.cochain.number.from_one; to_most = W.cochain.number.to_most };
    square = length-by_pairs _ _;
    below = λ i below. phase_below i (rw (length-by_pairs (size here) (phase_at w a (centraliser_of w.group a))) at below);
    cocycle = record {
      law = λ p q r p_below q_below r_below. law (element p p_below) (element q q_below) (element r r_below);
      at_identity_left = λ p below.
          let x = at_place (element p below) in
          phase_is (place_group w.group T A).one (element p below) ∙ ap (λ (e : Below w.group.order). theta w a e.value x.value) (at_identity w.group T A)
          ∙ (theta_normalised w W a x.value a_below x.below).1;
      at_identity_right = λ p below.
          let x = at_place (element p below) in
          phase_is (element p below) (place_group w.group T A).one ∙ ap (λ (e : Below w.group.order). theta w a x.value e.value) (at_identity w.group T A)
          ∙ (theta_normalised w W a x.value a_below x.below).2;
    };
  }
    where
      phase_below : (i : ℕ) → i < size here * size here → get_or here.phases i 0 < w.roots
      phase_below i below =
          let x = at_place (element (i / size here) (row_below (size here) i below)) in
          let y = at_place (element (i % size here) (column_below (size here) i below)) in
          rw (listed_at (size here) (phase_at w a (centraliser_of w.group a)) i below) (phases_below w W a x.value y.value a_below x.below y.below).0

  pub twist_lawful : IsTwist (twist_of w a)
  unfolding twist_of
  twist_lawful = twist_over_lawful

  -- from the list of the elements

  pub elements_below : (t : Table) (elements : List ℕ) → t ≡ w.group → elements ≡ centraliser_of w.group a → (q : ℕ) → q < length elements → get_or elements q 0 < t.order
  elements_below t elements same e = rw (same, e) (λ q below. (at_place (element q below)).below)

  pub elements_few : (elements : List ℕ) → elements ≡ centraliser_of w.group a → IsSmall (length elements)
  elements_few elements e = rw e twist_over_lawful.small

  pub elements_lawful : (t : Table) (elements : List ℕ) → t ≡ w.group → elements ≡ centraliser_of w.group a → IsGroup (table_of t elements)
  elements_lawful t elements same e = rw (same, e) (places_lawful w.group T A)

  pub made_lawful : (elements : List ℕ) (t : Table) (roots : ℕ) (phases : List ℕ) → elements ≡ centraliser_of w.group a → t ≡ table_of w.group elements → roots ≡ w.roots
      → phases ≡ by_pairs (length elements) (phase_at w a elements) → IsTwist (record { at = a; elements = elements; group = t; modulus = roots; phases = phases })
  made_lawful elements t roots phases e t_is roots_is phases_is = rw (phases_is, roots_is, t_is, e) twist_over_lawful

-- what the twisted centraliser is

pub centraliser_is_twist : CentraliserIsTwist
centraliser_is_twist = twist_lawful

pub elements_commute : ElementsCommute
unfolding twist_of
elements_commute w W a = centraliser_exactly w.group W.cochain.group a

pub products_agree : ProductsAgree
unfolding twist_of
products_agree w W a p r below p_below r_below = same_value (at_product w.group (T w W a below) (A w W a below) (element p p_below) (element r r_below))

pub identities_agree : IdentitiesAgree
unfolding twist_of
identities_agree w W a below = same_value (at_identity w.group (T w W a below) (A w W a below))

pub inverses_agree : InversesAgree
unfolding twist_of
inverses_agree w W a p below p_below = same_value (at_inverse w.group (T w W a below) (A w W a below) (element p p_below))

pub phases_agree : PhasesAgree
unfolding twist_of
phases_agree w W a p r below p_below r_below = phase_is w W a below (element p p_below) (element r r_below)

pub kappas_agree : KappasAgree
unfolding twist_of kappa_at_places kappa carry conjugate
kappas_agree w W a c p below c_below p_below =
    let T = W.cochain.group in
    let A : Below w.group.order = element a below in
    let c = element c c_below in
    let p = element p p_below in
    ap₂ (λ u v. (u + (w.roots - v)) % w.roots) (phase_is w W a below c p)
    (phase_is w W a below (carry (place_group w.group T A) c p) c
    ∙ ap (λ (x : Below w.group.order). theta w a x.value (element_at w.group T A c).value) (at_conjugate w.group T A c p))
