-- A field that serves a cocycle serves the twisted centraliser of each element of its group.
use Rattle.twist_lift.proofs.Names.{◌≡◌, ℕ, zero, suc, ◌*◌, ◌/◌, ◌%◌, ◌+◌, ◌<◌, ◌≤◌, refl, sym, ap, ◌∙◌, subst, arith, div-add-mod, mul-mod_right, mul_assoc, ModRing, TwistedSubgroup, size, element, IsTwist, Serves, root_order, ServesClasses}
use Rattle.std.proofs.lemmas.Nat.Gcd.{mod-eq-zero_of_dvd}
use Rattle.orders.specs.Group.{power}
use Rattle.orders.specs.Order.{exponent_of}
use Rattle.orders.proofs.Exponents.{exponent_is_least, exponent_divides}
use Rattle.group_table.specs.Group.{product, identity_of}
use Rattle.group_table.proofs.Sentences.{group_below, closed, identity_below}
use Rattle.group_table.proofs.Numbers.{length-passing_below}
use Rattle.classes.specs.Conjugacy.{centraliser_of}
use Rattle.cochain.specs.Cochain.{Cochain, IsCocycle}
use Rattle.slant.specs.Twists.{twist_of}
use Rattle.slant.proofs.TwistLaws.{centraliser_is_twist, products_agree, identities_agree}
use Rattle.transport.proofs.Centralisers.{element_injective, element_commutes}

-- what divides a factor of a number divides the number, with the other factor
period_part : (k n e E : ℕ) → E % e ≡ 0 → k % (n * E) ≡ 0 → k % (n * e) ≡ 0
period_part k n e E divides period =
    let inner : E ≡ e * (E / e) = let parts : e * (E / e) + E % e ≡ E = div-add-mod E e in omega arith in
    let outer : k ≡ n * E * (k / (n * E)) = let parts : n * E * (k / (n * E)) + k % (n * E) ≡ k = div-add-mod k (n * E) in omega arith in
    let whole : k ≡ n * e * (E / e * (k / (n * E))) =
    outer ∙ ap (λ m. n * m * (k / (n * E))) inner ∙ ap (λ m. m * (k / (n * E))) (sym (mul_assoc n e (E / e))) ∙ mul_assoc (n * e) (E / e) (k / (n * E)) in
    ap (λ m. m % (n * e)) whole ∙ mul-mod_right (n * e) (E / e * (k / (n * E)))

module _ (w : Cochain) (W : IsCocycle w) (a : ℕ) (a_below : a < w.group.order) where
  abbrev s : TwistedSubgroup
  s = twist_of w a

  twist : IsTwist s
  twist = centraliser_is_twist w W a a_below

  record IsPower (p j r : ℕ) : Type 0 where
    below : r < size s
    stands : element s r ≡ power (product w.group) (identity_of w.group) (element s p) j

  -- the powers at a place are those of its element
  element_power : (p j : ℕ) → p < size s → IsPower p j (power (product s.group) (identity_of s.group) p j)
  unfolding power
  element_power p zero p_below = record { below = identity_below s.group twist.group; stands = identities_agree w W a a_below }
  element_power p (suc j) p_below =
      let before = element_power p j p_below in
      let r = power (product s.group) (identity_of s.group) p j in
      record {
        below = closed s.group r p twist.group before.below p_below;
        stands = products_agree w W a r p a_below before.below p_below ∙ ap (λ x. product w.group x (element s p)) before.stands;
      }

  -- the exponent of the centraliser divides that of the group
  exponent_part : exponent_of w.group.order (product w.group) (identity_of w.group) % exponent_of (size s) (product s.group) (identity_of s.group) ≡ 0
  exponent_part =
      let E = exponent_of w.group.order (product w.group) (identity_of w.group) in
      let G = group_below w.group W.cochain.group in
      mod-eq-zero_of_dvd (exponent_of (size s) (product s.group) (identity_of s.group))
      ((exponent_divides (size s) (product s.group) (identity_of s.group) (group_below s.group twist.group) E).1
      (λ p p_below.
      let at = element_power p E p_below in
      element_injective s twist (power (product s.group) (identity_of s.group) p E) (identity_of s.group) at.below (identity_below s.group twist.group)
      (at.stands
      ∙ (exponent_is_least w.group.order (product w.group) (identity_of w.group) G).gives_unit (element s p) (element_commutes w W a a_below p p_below).0
      ∙ sym (identities_agree w W a a_below))))

  modulus_is : s.modulus ≡ w.roots
  unfolding twist_of
  modulus_is = refl

  few_places : size s ≤ w.group.order
  unfolding twist_of centraliser_of
  few_places = length-passing_below w.group.order _

  pub class_served : (ring : ModRing) → w.group.order < ring.q → ring.conductor % root_order w ≡ 0 → Serves ring (twist_of w a)
  class_served ring over period = record {
    twist = twist;
    over = omega (arith, few_places, over);
    period =
        subst (λ n. ring.conductor % (n * exponent_of (size s) (product s.group) (identity_of s.group)) ≡ 0) (sym modulus_is)
        (period_part ring.conductor w.roots (exponent_of (size s) (product s.group) (identity_of s.group)) (exponent_of w.group.order (product w.group) (identity_of w.group)) exponent_part period);
  }

pub serves_classes : (ring : ModRing) → ServesClasses ring
serves_classes ring w W over period a a_below = class_served w W a a_below ring over period
