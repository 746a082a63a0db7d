-- Polynomials with whole coefficients act on a module with a linear map: p acts as p of the map. Laws of products of polynomials are
-- those of the action.
use Rattle.std.proofs.Common.{◌≡◌, ℕ, zero, suc, ◌+◌, ◌*◌, List, [], ◌∷◌, ◌++◌, length, refl, sym, ap, ◌∙◌, arith, zero-add, mul-zero, mul-suc, add_comm}
use Rattle.std.specs.Prelude.{ℤ, pos, neg_ℤ}
use mathlib.Core.Path.{ap₂}
use Rattle.algebra.specs.Modules as modules
use Rattle.algebra.proofs.LinearMaps.{plus_rules, back, horner_one, none_plus, scale_none, move_none, act_none}
use Rattle.cyclotomic.specs.Polynomial.{zeros, plus, scaled, times, x_to, at_power, leading, lower}
use Rattle.cyclotomic.specs.Division.{cancelled, division, remainder}
use Rattle.cyclotomic.specs.Laws.Integers.{integers}
use Rattle.cyclotomic.specs.Laws.Polynomials.{length-lower, leading-nil}
use Rattle.cyclotomic.specs.Laws.Remainders.{length-remainder, zero_not_one}
pub use Rattle.algebra.specs.Modules.{act}
unfoldable pub use Rattle.algebra.specs.Modules.{horner, iterate}
pub use Rattle.algebra.proofs.LinearMaps.{iterate-zero, iterate-suc, iterate-scale, act-nil, act-cons, act-one, act-add, act-scale, act-map, act_comm, act-iterate}

-- a commutative group with multiples by whole numbers, and a map that respects both
abbrev pub LinearMap : Type 0 → Type 0
LinearMap V = modules.LinearMap integers V

module _ {V : Type 0} (M : LinearMap V) where
  pub iterate-inner : (k : ℕ) (v : V) → iterate M.map k (M.map v) ≡ M.map (iterate M.map k v)
  unfolding iterate
  iterate-inner zero v = refl
  iterate-inner (suc k) v = ap M.map (iterate-inner k v)

  pub iterate-sum : (j k : ℕ) (v : V) → iterate M.map (j + k) v ≡ iterate M.map j (iterate M.map k v)
  unfolding iterate
  iterate-sum zero k v = ap (λ n. iterate M.map n v) (zero-add k)
  iterate-sum (suc j) k v =
      let e : suc j + k ≡ suc (j + k) = omega arith in
      ap (λ n. iterate M.map n v) e ∙ ap M.map (iterate-sum j k v)

  pub iterate-add : (k : ℕ) (u v : V) → iterate M.map k (M.add u v) ≡ M.add (iterate M.map k u) (iterate M.map k v)
  iterate-add zero u v = simp iterate-zero
  iterate-add (suc k) u v = simp (iterate-suc, iterate-add k u v, M.map_add)

  pub scale_nought : (c : ℤ) → M.scale c M.nought ≡ M.nought
  scale_nought = scale_none M

  pub map_nought : M.map M.nought ≡ M.nought
  map_nought = move_none M

  pub act-nought : (p : List ℤ) → act M p M.nought ≡ M.nought
  act-nought = act_none M

  -- ---- the action respects sums, multiples and products of polynomials
  pub act-plus : (p q : List ℤ) (v : V) → act M (plus p q) v ≡ M.add (act M p v) (act M q v)
  unfolding plus
  act-plus [] q v = simp (act-nil, none_plus)
  act-plus (a ∷ p) [] v = simp (act-nil, M.add_nought)
  act-plus (a ∷ p) (b ∷ q) v =
      simp (act-cons, act-plus p q v, M.scale_sum, M.map_add, plus_rules, M)

  pub act-scaled : (c : ℤ) (p : List ℤ) (v : V) → act M (scaled c p) v ≡ M.scale c (act M p v)
  unfolding scaled
  act-scaled c [] v = simp (act-nil, scale_nought)
  act-scaled c (a ∷ p) v =
      simp (act-cons, act-scaled c p v, M.scale_product, M.map_scale, M.scale_add)

  pub act-shifted : (p : List ℤ) (v : V) → act M (pos 0 ∷ p) v ≡ M.map (act M p v)
  act-shifted p v = simp (act-cons, M.scale_zero, none_plus)

  pub act-times : (p q : List ℤ) (v : V) → act M (times p q) v ≡ act M p (act M q v)
  unfolding times
  act-times [] q v = simp (act-nil)
  act-times (a ∷ p) q v =
      simp (act-plus, act-scaled, act-shifted, act-times p q v, act-cons)

  -- ---- powers of x
  pub act-zeros : (n : ℕ) (p : List ℤ) (v : V) → act M (zeros n ++ p) v ≡ iterate M.map n (act M p v)
  unfolding iterate
  act-zeros zero p v = refl
  act-zeros (suc n) p v = act-shifted (zeros n ++ p) v ∙ ap M.map (act-zeros n p v)

  pub act-x_to : (n : ℕ) (v : V) → act M (x_to n) v ≡ iterate M.map n v
  unfolding x_to
  act-x_to n v = act-zeros n (pos 1 ∷ []) v ∙ ap (iterate M.map n) (act-one M v)

  pub act-nothing : (n : ℕ) (v : V) → act M (zeros n) v ≡ M.nought
  act-nothing zero v = act-nil M v
  act-nothing (suc n) v = simp (act-shifted, act-nothing n v, map_nought)

  -- ---- the last coefficient
  pub act-leading : (a : ℤ) (p : List ℤ) (v : V) → act M (a ∷ p) v ≡ M.add (act M (lower (a ∷ p)) v) (M.scale (leading (a ∷ p)) (iterate M.map (length p) v))
  unfolding lower leading
  act-leading a [] v =
      simp (act-cons, act-nil, iterate-zero, map_nought, M.add_nought, none_plus)
  act-leading a (b ∷ p) v =
      act-cons M a (b ∷ p) v ∙ ap (λ z. M.add (M.scale a v) (M.map z)) (act-leading b p v)
      ∙ simp (act-cons, M.map_add, M.map_scale, iterate-suc, M.add_assoc)

  -- t = c m + (t - c m), with c the last coefficient of t
  cancelled-sum : (b a : ℤ) (m r : List ℤ) (v : V) → leading (b ∷ m) ≡ pos 1 → length r ≡ length m
      → act M (a ∷ r) v ≡ M.add (M.scale (leading (a ∷ r)) (act M (b ∷ m) v)) (act M (cancelled (b ∷ m) (a ∷ r)) v)
  unfolding cancelled
  cancelled-sum b a m r v monic same =
      let c = leading (a ∷ r) in
      let low = act M (lower (b ∷ m)) v in
      let top = iterate M.map (length m) v in
      let rest = M.add (act M (lower (a ∷ r)) v) (M.scale c top) in
      let divisor : act M (b ∷ m) v ≡ M.add low top = act-leading b m v ∙ simp (monic, M.scale_one) in
      let right : M.add (M.scale c (act M (b ∷ m) v)) (act M (plus (lower (a ∷ r)) (scaled (neg_ℤ c) (lower (b ∷ m)))) v)
      ≡ M.add (M.add rest (M.scale c low)) (M.scale (neg_ℤ c) low) =
      simp (divisor, act-plus, act-scaled, M.scale_add, plus_rules, M) in
      act-leading a r v ∙ rw same (sym (right ∙ back M c rest low))

  -- p = q m + r, for the quotient q and the remainder r of p by m
  pub division-sum : (m p : List ℤ) (v : V) → leading m ≡ pos 1 → act M p v ≡ M.add (act M (division m p).0 (act M m v)) (act M (remainder m p) v)
  unfolding division remainder
  division-sum [] p v monic = absurd (zero_not_one (sym leading-nil ∙ monic))
  division-sum (b ∷ m) [] v monic = simp (act-nil, act-nothing, M.add_nought)
  division-sum (b ∷ m) (a ∷ p) v monic =
      let (q, r) = division (b ∷ m) p in
      let w = act M (b ∷ m) v in
      let first : act M (a ∷ p) v ≡ M.add (M.map (act M q w)) (act M (a ∷ r) v) =
      simp (act-cons, division-sum (b ∷ m) p v monic, M.map_add, plus_rules, M) in
      first ∙ ap (M.add (M.map (act M q w))) (cancelled-sum b a m r v monic (length-remainder (b ∷ m) p ∙ length-lower b m))
      ∙ simp (act-cons, plus_rules, M)

  -- the remainder by a monic polynomial that sends v to nought acts on v as the polynomial
  pub act-remainder : (m p : List ℤ) (v : V) → leading m ≡ pos 1 → act M m v ≡ M.nought → act M (remainder m p) v ≡ act M p v
  act-remainder m p v monic vanishes = sym (division-sum m p v monic ∙ simp (vanishes, act-nought, none_plus))

-- the map, t times, is linear too
abbrev pub map_power : {V : Type 0} → LinearMap V → ℕ → LinearMap V
map_power M t = record {
  add = M.add;
  nought = M.nought;
  scale = M.scale;
  map = iterate M.map t;
  add_assoc = M.add_assoc;
  add_comm = M.add_comm;
  add_nought = M.add_nought;
  scale_add = M.scale_add;
  scale_sum = M.scale_sum;
  scale_product = M.scale_product;
  scale_one = M.scale_one;
  scale_zero = M.scale_zero;
  map_add = iterate-add M t;
  map_scale = iterate-scale M t;
}

-- p at x^t acts by the map as p acts by its power t
pub act-at_power : {V : Type 0} (M : LinearMap V) (t : ℕ) (p : List ℤ) (v : V) → act M (at_power t p) v ≡ act (map_power M t) p v
unfolding at_power horner
act-at_power M t [] v = refl
act-at_power M t (a ∷ p) v =
    act-plus M (a ∷ []) (zeros t ++ at_power t p) v
    ∙ ap₂ M.add (horner_one M a v) (act-zeros M t (at_power t p) v ∙ ap (iterate M.map t) (act-at_power M t p v))

-- powers of a power of the map
pub iterate-power : {V : Type 0} (M : LinearMap V) (t k : ℕ) (v : V) → iterate (iterate M.map t) k v ≡ iterate M.map (t * k) v
unfolding iterate
iterate-power M t zero v = ap (λ n. iterate M.map n v) (sym (mul-zero t))
iterate-power M t (suc k) v =
    let e : t + t * k ≡ t * suc k = sym (mul-suc t k ∙ add_comm (t * k) t) in
    ap (iterate M.map t) (iterate-power M t k v) ∙ sym (iterate-sum M t (t * k) v)
    ∙ ap (λ n. iterate M.map n v) e

-- maps that agree everywhere act alike
pub act-same_map : {V : Type 0} (M : LinearMap V) (s t : ℕ) → ((v : V) → iterate M.map s v ≡ iterate M.map t v) → (p : List ℤ) (v : V) → act (map_power M s) p v ≡ act (map_power M t) p v
unfolding horner
act-same_map M s t same [] v = refl
act-same_map M s t same (a ∷ p) v =
    ap (M.add (M.scale a v)) (same (act (map_power M s) p v) ∙ ap (iterate M.map t) (act-same_map M s t same p v))

-- the power t' of the power t
pub act-power_power : {V : Type 0} (M : LinearMap V) (t t' : ℕ) (p : List ℤ) (v : V) → act (map_power (map_power M t) t') p v ≡ act (map_power M (t * t')) p v
unfolding horner
act-power_power M t t' [] v = refl
act-power_power M t t' (a ∷ p) v =
    ap (M.add (M.scale a v)) (iterate-power M t t' (act (map_power (map_power M t) t') p v) ∙ ap (iterate M.map (t * t')) (act-power_power M t t' p v))
