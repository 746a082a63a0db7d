-- The twisted centraliser of an element, as a subgroup of the group.
use Rattle.transport.proofs.Names.{◌≡◌, ℕ, ◌<◌, Option, Some, None, refl, sym, ◌∙◌, arith, unwrap_or, get_or_default_zero, Cochain, IsCocycle, TwistedSubgroup, size, element, place_of, IsTwist, place_there, centraliser_is_twist, Contains-get_or, product, place_absent, elements_commute}
use Rattle.slant.specs.Twists.{twist_of}

-- one element stands at one place
pub element_injective : (t : TwistedSubgroup) → IsTwist t → (p r : ℕ) → p < size t → r < size t → element t p ≡ element t r → p ≡ r
element_injective t twist p r p_below r_below e = grind (arith, e, twist.ascending p r, twist.ascending r p)

-- the place of the element at a place
pub place_of_element : (t : TwistedSubgroup) → IsTwist t → (p : ℕ) → p < size t → unwrap_or (place_of t (element t p)) 0 ≡ p
place_of_element t twist p below = by (place_of t (element t p)) refl
  where
    by : (o : Option ℕ) → o ≡ place_of t (element t p) → unwrap_or o 0 ≡ p
    by None e = absurd (place_absent t (element t p) None e p below refl)
    by (Some q) e = let there = place_there t (element t p) (Some q) e in element_injective t twist q p there.0 below there.1

module _ (w : Cochain) (W : IsCocycle w) (a : ℕ) (a_below : a < w.group.order) where
  pub twist : IsTwist (twist_of w a)
  twist = centraliser_is_twist w W a a_below

  -- what stands at a place commutes with a
  pub element_commutes : (p : ℕ) → p < size (twist_of w a) → (element (twist_of w a) p < w.group.order) × (product w.group (element (twist_of w a) p) a ≡ product w.group a (element (twist_of w a) p))
  element_commutes p below = (elements_commute w W a (element (twist_of w a) p)).0 (Contains-get_or (twist_of w a).elements p 0 (rw twist.count below))

  -- what commutes with a stands at a place
  pub commuting_element : (x : ℕ) → x < w.group.order → product w.group x a ≡ product w.group a x → (p : ℕ) × (p < size (twist_of w a)) × (element (twist_of w a) p ≡ x)
  commuting_element x below commutes =
      let (p, there, stands) = (elements_commute w W a x).1 (below, commutes) in
      (p, rw (← twist.count) there, sym (get_or_default_zero (twist_of w a).elements p x there) ∙ stands)
