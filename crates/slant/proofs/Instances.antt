-- A cocycle of a group by its table, as a 3-cocycle over the type of its elements, and the identities of its phases from those there.
use Rattle.slant.proofs.Names.{◌≡◌, ℕ, ◌<◌, refl, product, identity_below, Cochain, value, IsCocycle, Group, Below, below_equal, conj, conjugate, element, element_group, theta, gamma, transport_phase, kappa, slant_phase, coproduct_phase, carrying_phase, conjugation_phase}
use Rattle.algebra.proofs.GroupLaws.{conj_of_commuting}
use Rattle.cochain.proofs.Sentences.{value_below, first_one, second_one, third_one, closed_at}
use Rattle.phases.specs.ThreeCocycle.{ThreeCocycle}
use Rattle.phases.proofs.PhaseLaws as laws
use Rattle.slant.specs.Laws.{ThetaAssociative, ThetaNormalised, PhasesBelow}

-- the exponents at elements
abbrev pub exponent : (w : Cochain) → Below w.group.order → Below w.group.order → Below w.group.order → ℕ
exponent w g h k = value w g.value h.value k.value

module _ (w : Cochain) (W : IsCocycle w) where
  abbrev pub group : Group (Below w.group.order)
  group = element_group w.group W.cochain.group

  pub three_cocycle : ThreeCocycle group w.roots (exponent w)
  three_cocycle = record {
    below = λ g h k. value_below w W.cochain g.value h.value k.value g.below h.below k.below;
    law = λ g h k l. record { same = closed_at w W g.value h.value k.value l.value g.below h.below k.below l.below };
    first_one = λ h k. first_one w W h.value k.value h.below k.below (identity_below w.group W.cochain.group);
    second_one = λ g k. second_one w W g.value k.value g.below k.below (identity_below w.group W.cochain.group);
    third_one = λ g h. third_one w W g.value h.value g.below h.below (identity_below w.group W.cochain.group);
  }

  pub commuting : {g x : ℕ} (p : g < w.group.order) (q : x < w.group.order) → product w.group g x ≡ product w.group x g
      → conj group (element g p) (element x q) ≡ element g p
  commuting p q e = conj_of_commuting group (element _ p) (element _ q) (below_equal _ _ e)

  -- the phases over the type of elements are those over their numbers
  pub theta_is : (g x y : Below w.group.order) → slant_phase group w.roots (exponent w) g x y ≡ theta w g.value x.value y.value
  unfolding slant_phase theta conj
  theta_is g x y = refl

pub theta_associative : ThetaAssociative
unfolding slant_phase theta conj
theta_associative w W g x y z p q r s = laws.theta_associative _ _ _ (three_cocycle w W) (element g p) (element x q) (element y r) (element z s)

pub theta_normalised : ThetaNormalised
unfolding slant_phase theta conj
theta_normalised w W x y p q = (
  laws.theta_of_one _ _ _ (three_cocycle w W) (element x p) (element y q),
  laws.theta_first_one _ _ _ (three_cocycle w W) (element x p) (element y q),
  laws.theta_second_one _ _ _ (three_cocycle w W) (element x p) (element y q),
)

pub phases_below : PhasesBelow
unfolding slant_phase coproduct_phase carrying_phase conjugation_phase theta gamma transport_phase kappa conj conjugate
phases_below w W g x y p q r = laws.phases_below _ _ _ (three_cocycle w W) (element g p) (element x q) (element y r)
