-- Values modulo m are a module with the linear map "times x", and a commutative ring: a polynomial's remainder is its action on 1.
use Rattle.std.proofs.Common.{◌≡◌, ℕ, suc, List, [], ◌∷◌, length, sym, ap, ◌∙◌}
use Rattle.std.specs.Prelude.{ℤ, pos, ◌+ℤ◌, ◌*ℤ◌}
use Rattle.std.proofs.Math.Nat.{ℕ_set}
use mathlib.Core.Path.{ap₂}
use mathlib.Core.HLevel.{is_prop→PathP}
use Rattle.cyclotomic.specs.Polynomial.{zeros, plus, scaled, times}
use Rattle.cyclotomic.specs.Division.{degree, cancelled, remainder}
use Rattle.cyclotomic.specs.Ring.{Value, value_sum, value_multiple, value_negative, value_nought, value_of, value_one, value_product}
use Rattle.cyclotomic.specs.Laws.Integers as Z
use Rattle.cyclotomic.specs.Laws.Polynomials.{plus_assoc, plus_comm, plus-cons, scaled-cons, scaled-plus, scaled-sum, scaled-product, scaled-one, scaled-zero, length-scaled, length-zeros, plus-zeros, plus-opposite, first_and_rest}
use Rattle.cyclotomic.specs.Laws.Remainders.{remainder-nil, remainder-cons, length-cancelled, length-remainder, cancelled-plus, cancelled-scaled, remainder-itself}
use Rattle.cyclotomic.specs.Laws.Action.{LinearMap, act, act-nil, act-cons, act-plus, act-scaled, act-times, act_comm, act-add}

-- two values with the same coefficients are equal
pub same_value : {n : ℕ} (u v : Value n) → u.coefficients ≡ v.coefficients → u ≡ v
same_value {n} u v e = λ i. record {
  coefficients = e i;
  count = is_prop→PathP (λ j. length (e j) ≡ n) (λ j. ℕ_set (length (e j)) n) u.count v.count i;
}

-- x times a value
unfoldable pub value_shift : (m : List ℤ) → Value (degree m) → Value (degree m)
value_shift m u = record {
  coefficients = cancelled m (pos 0 ∷ u.coefficients);
  count = length-cancelled m (pos 0) u.coefficients u.count;
}

module _ (m : List ℤ) where
  pub shift-sum : (u v : Value (degree m)) → value_shift m (value_sum u v) ≡ value_sum (value_shift m u) (value_shift m v)
  unfolding value_shift value_sum
  shift-sum u v =
      same_value _ _
      (ap (cancelled m) (sym (plus-cons (pos 0) (pos 0) u.coefficients v.coefficients))
      ∙ cancelled-plus m (pos 0 ∷ u.coefficients) (pos 0 ∷ v.coefficients) (ap suc (u.count ∙ sym v.count)))

  pub shift-multiple : (c : ℤ) (v : Value (degree m)) → value_shift m (value_multiple c v) ≡ value_multiple c (value_shift m v)
  unfolding value_shift value_multiple
  shift-multiple c v =
      same_value _ _
      (ap (λ z. cancelled m (z ∷ scaled c v.coefficients)) (sym (Z.times_zero c))
      ∙ ap (cancelled m) (sym (scaled-cons c (pos 0) v.coefficients))
      ∙ cancelled-scaled m c (pos 0 ∷ v.coefficients))

  pub sum_assoc : (u v w : Value (degree m)) → value_sum (value_sum u v) w ≡ value_sum u (value_sum v w)
  unfolding value_sum
  sum_assoc u v w = same_value _ _ (plus_assoc u.coefficients v.coefficients w.coefficients)

  pub sum_comm : (u v : Value (degree m)) → value_sum u v ≡ value_sum v u
  unfolding value_sum
  sum_comm u v = same_value _ _ (plus_comm u.coefficients v.coefficients)

  pub sum_nought : (u : Value (degree m)) → value_sum u value_nought ≡ u
  unfolding value_sum value_nought
  sum_nought u = same_value _ _ (plus-zeros u.coefficients (degree m) u.count)

  pub sum_negative : (u : Value (degree m)) → value_sum u (value_negative u) ≡ value_nought
  unfolding value_sum value_multiple value_nought
  sum_negative u = same_value _ _ (plus-opposite u.coefficients ∙ ap zeros u.count)

  pub multiple_add : (c : ℤ) (u v : Value (degree m)) → value_multiple c (value_sum u v) ≡ value_sum (value_multiple c u) (value_multiple c v)
  unfolding value_sum value_multiple
  multiple_add c u v = same_value _ _ (scaled-plus c u.coefficients v.coefficients)

  pub multiple_sum : (a b : ℤ) (u : Value (degree m)) → value_multiple (a +ℤ b) u ≡ value_sum (value_multiple a u) (value_multiple b u)
  unfolding value_sum value_multiple
  multiple_sum a b u = same_value _ _ (scaled-sum a b u.coefficients)

  pub multiple_product : (a b : ℤ) (u : Value (degree m)) → value_multiple (a *ℤ b) u ≡ value_multiple a (value_multiple b u)
  unfolding value_multiple
  multiple_product a b u = same_value _ _ (scaled-product a b u.coefficients)

  pub multiple_one : (u : Value (degree m)) → value_multiple (pos 1) u ≡ u
  unfolding value_multiple
  multiple_one u = same_value _ _ (scaled-one u.coefficients)

  pub multiple_zero : (u : Value (degree m)) → value_multiple (pos 0) u ≡ value_nought
  unfolding value_multiple value_nought
  multiple_zero u = same_value _ _ (scaled-zero u.coefficients ∙ ap zeros u.count)

-- the values modulo m, with "times x"
abbrev pub times_x : (m : List ℤ) → LinearMap (Value (degree m))
times_x m = record {
  add = value_sum;
  nought = value_nought;
  scale = value_multiple;
  map = value_shift m;
  add_assoc = sum_assoc m;
  add_comm = sum_comm m;
  add_nought = sum_nought m;
  scale_add = multiple_add m;
  scale_sum = multiple_sum m;
  scale_product = multiple_product m;
  scale_one = multiple_one m;
  scale_zero = multiple_zero m;
  map_add = shift-sum m;
  map_scale = shift-multiple m;
}

module _ (m : List ℤ) where
  -- a + x r, from its parts
  pub value_of-cons : (a : ℤ) (p : List ℤ) → value_of m (a ∷ p) ≡ value_sum (value_multiple a (value_one m)) (value_shift m (value_of m p))
  unfolding value_of value_sum value_multiple value_shift
  value_of-cons a p =
      let r = remainder m p in
      let unit = pos 1 ∷ zeros (degree m) in
      let one_is : remainder m (pos 1 ∷ []) ≡ cancelled m unit =
      remainder-cons m (pos 1) [] ∙ ap (λ z. cancelled m (pos 1 ∷ z)) (remainder-nil m) in
      same_value _ _
      (remainder-cons m a p
      ∙ ap (cancelled m) (sym (first_and_rest a r (degree m) (length-remainder m p)))
      ∙ cancelled-plus m (scaled a unit) (pos 0 ∷ r)
      (length-scaled a unit ∙ ap suc (length-zeros (degree m) ∙ sym (length-remainder m p)))
      ∙ ap (λ z. plus z (cancelled m (pos 0 ∷ r))) (cancelled-scaled m a unit)
      ∙ ap (λ z. plus (scaled a z) (cancelled m (pos 0 ∷ r))) (sym one_is))

  pub value_of-nil : value_of m [] ≡ value_nought
  unfolding value_of value_nought
  value_of-nil = same_value _ _ (remainder-nil m)

  -- the remainder of p is p of "times x", at 1
  pub value_of-act : (p : List ℤ) → value_of m p ≡ act (times_x m) p (value_one m)
  value_of-act [] = value_of-nil ∙ sym (act-nil (times_x m) (value_one m))
  value_of-act (a ∷ p) =
      value_of-cons a p
      ∙ ap (λ z. value_sum (value_multiple a (value_one m)) (value_shift m z)) (value_of-act p)
      ∙ sym (act-cons (times_x m) a p (value_one m))

  pub value_of-itself : (u : Value (degree m)) → value_of m u.coefficients ≡ u
  unfolding value_of
  value_of-itself u = same_value _ _ (remainder-itself m u.coefficients u.count)

  -- a value acts on 1 as itself
  pub act-itself : (u : Value (degree m)) → act (times_x m) u.coefficients (value_one m) ≡ u
  act-itself u = sym (value_of-act u.coefficients) ∙ value_of-itself u

  pub product-act : (u v : Value (degree m)) → value_product m u v ≡ act (times_x m) u.coefficients v
  unfolding value_product
  product-act u v =
      value_of-act (times u.coefficients v.coefficients)
      ∙ act-times (times_x m) u.coefficients v.coefficients (value_one m)
      ∙ ap (act (times_x m) u.coefficients) (act-itself v)

  -- ---- the laws of a commutative ring
  pub product_comm : (u v : Value (degree m)) → value_product m u v ≡ value_product m v u
  product_comm u v =
      product-act u v ∙ ap (act (times_x m) u.coefficients) (sym (act-itself v))
      ∙ act_comm (times_x m) u.coefficients v.coefficients (value_one m)
      ∙ ap (act (times_x m) v.coefficients) (act-itself u) ∙ sym (product-act v u)

  pub product_assoc : (u v w : Value (degree m)) → value_product m (value_product m u v) w ≡ value_product m u (value_product m v w)
  product_assoc u v w =
      let M = times_x m in
      product_comm (value_product m u v) w
      ∙ product-act w (value_product m u v)
      ∙ ap (act M w.coefficients) (product-act u v)
      ∙ act_comm M w.coefficients u.coefficients v
      ∙ ap (act M u.coefficients) (sym (product-act w v) ∙ product_comm w v)
      ∙ sym (product-act u (value_product m v w))

  pub product_one : (u : Value (degree m)) → value_product m u (value_one m) ≡ u
  product_one u = product-act u (value_one m) ∙ act-itself u

  pub product_sum : (u v w : Value (degree m)) → value_product m u (value_sum v w) ≡ value_sum (value_product m u v) (value_product m u w)
  product_sum u v w =
      product-act u (value_sum v w) ∙ act-add (times_x m) u.coefficients v w
      ∙ ap₂ value_sum (sym (product-act u v)) (sym (product-act u w))

  -- ---- a polynomial's remainder respects sums and products
  pub value_of-plus : (p q : List ℤ) → value_of m (plus p q) ≡ value_sum (value_of m p) (value_of m q)
  value_of-plus p q =
      value_of-act (plus p q) ∙ act-plus (times_x m) p q (value_one m)
      ∙ ap₂ value_sum (sym (value_of-act p)) (sym (value_of-act q))

  pub value_of-scaled : (c : ℤ) (p : List ℤ) → value_of m (scaled c p) ≡ value_multiple c (value_of m p)
  value_of-scaled c p =
      value_of-act (scaled c p) ∙ act-scaled (times_x m) c p (value_one m)
      ∙ ap (value_multiple c) (sym (value_of-act p))

  pub product-of : (p : List ℤ) (v : Value (degree m)) → value_product m (value_of m p) v ≡ act (times_x m) p v
  product-of p v =
      let M = times_x m in
      product_comm (value_of m p) v ∙ product-act v (value_of m p)
      ∙ ap (act M v.coefficients) (value_of-act p)
      ∙ act_comm M v.coefficients p (value_one m)
      ∙ ap (act M p) (act-itself v)

  pub value_of-times : (p q : List ℤ) → value_of m (times p q) ≡ value_product m (value_of m p) (value_of m q)
  value_of-times p q =
      value_of-act (times p q) ∙ act-times (times_x m) p q (value_one m)
      ∙ ap (act (times_x m) p) (sym (value_of-act q)) ∙ sym (product-of p (value_of m q))

-- the laws of values, for `remainder_laws` and `ring_laws`
pub ruleset value_rules = (value_of-plus, value_of-scaled, value_of-times, value_of-itself, sum_assoc, sum_comm, sum_nought, sum_negative, product_assoc, product_comm, product_one, product_sum)
