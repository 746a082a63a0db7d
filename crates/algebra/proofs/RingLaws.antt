-- Laws that follow from those of a commutative ring, and sets of them for `simp`.
use Rattle.algebra.proofs.Names.{◌≡◌, sym, ◌∙◌, ap, ap₂, CommRing}

module _ {A : Type 0} (R : CommRing A) where
  pub add_assoc : (x y z : A) → R.add (R.add x y) z ≡ R.add x (R.add y z)
  add_assoc = R.add_assoc

  pub add_comm : (x y : A) → R.add x y ≡ R.add y x
  add_comm = R.add_comm

  pub add_nought : (x : A) → R.add x R.nought ≡ x
  add_nought = R.add_nought

  pub add_neg : (x : A) → R.add x (R.neg x) ≡ R.nought
  add_neg = R.add_neg

  pub mul_assoc : (x y z : A) → R.mul (R.mul x y) z ≡ R.mul x (R.mul y z)
  mul_assoc = R.mul_assoc

  pub mul_comm : (x y : A) → R.mul x y ≡ R.mul y x
  mul_comm = R.mul_comm

  pub mul_one : (x : A) → R.mul x R.one ≡ x
  mul_one = R.mul_one

  pub mul_add : (x y z : A) → R.mul x (R.add y z) ≡ R.add (R.mul x y) (R.mul x z)
  mul_add = R.mul_add

  pub nought_add : (x : A) → R.add R.nought x ≡ x
  nought_add x = R.add_comm R.nought x ∙ R.add_nought x

  pub neg_add_self : (x : A) → R.add (R.neg x) x ≡ R.nought
  neg_add_self x = R.add_comm (R.neg x) x ∙ R.add_neg x

  pub add_left_comm : (x y z : A) → R.add x (R.add y z) ≡ R.add y (R.add x z)
  add_left_comm x y z = sym (R.add_assoc x y z) ∙ ap (λ a. R.add a z) (R.add_comm x y) ∙ R.add_assoc y x z

  pub mul_left_comm : (x y z : A) → R.mul x (R.mul y z) ≡ R.mul y (R.mul x z)
  mul_left_comm x y z = sym (R.mul_assoc x y z) ∙ ap (λ a. R.mul a z) (R.mul_comm x y) ∙ R.mul_assoc y x z

  pub one_mul : (x : A) → R.mul R.one x ≡ x
  one_mul x = R.mul_comm R.one x ∙ R.mul_one x

  pub add_mul : (x y z : A) → R.mul (R.add x y) z ≡ R.add (R.mul x z) (R.mul y z)
  add_mul x y z = R.mul_comm (R.add x y) z ∙ R.mul_add z x y ∙ ap₂ R.add (R.mul_comm z x) (R.mul_comm z y)

  -- x + (-x + y) = y, and the other way round
  pub add_neg_add : (x y : A) → R.add x (R.add (R.neg x) y) ≡ y
  add_neg_add x y = sym (R.add_assoc x (R.neg x) y) ∙ ap (λ a. R.add a y) (R.add_neg x) ∙ nought_add y

  pub neg_add_add : (x y : A) → R.add (R.neg x) (R.add x y) ≡ y
  neg_add_add x y = sym (R.add_assoc (R.neg x) x y) ∙ ap (λ a. R.add a y) (neg_add_self x) ∙ nought_add y

  -- equal sums with one equal term have the other term equal
  pub add_cancel : (x y z : A) → R.add x y ≡ R.add x z → y ≡ z
  add_cancel x y z h = sym (neg_add_add x y) ∙ ap (λ a. R.add (R.neg x) a) h ∙ neg_add_add x z

  -- what adds up to nought with x is -x
  pub neg_unique : (x y : A) → R.add x y ≡ R.nought → y ≡ R.neg x
  neg_unique x y h = add_cancel x y (R.neg x) (h ∙ sym (R.add_neg x))

  -- x + y = x only for y = 0
  pub add_fixed : (x y : A) → R.add x y ≡ x → y ≡ R.nought
  add_fixed x y h = add_cancel x y R.nought (h ∙ sym (R.add_nought x))

  pub neg_neg : (x : A) → R.neg (R.neg x) ≡ x
  neg_neg x = sym (neg_unique (R.neg x) x (neg_add_self x))

  pub neg_nought : R.neg R.nought ≡ R.nought
  neg_nought = sym (neg_unique R.nought R.nought (R.add_nought R.nought))

  pub neg_add : (x y : A) → R.neg (R.add x y) ≡ R.add (R.neg x) (R.neg y)
  neg_add x y = sym (neg_unique (R.add x y) (R.add (R.neg x) (R.neg y)) (simp (R.add_assoc, add_left_comm y (R.neg x) (R.neg y), add_neg_add x, R.add_neg y)))

  pub mul_nought : (x : A) → R.mul x R.nought ≡ R.nought
  mul_nought x = add_fixed (R.mul x R.nought) (R.mul x R.nought) (sym (R.mul_add x R.nought R.nought) ∙ ap (λ a. R.mul x a) (R.add_nought R.nought))

  pub nought_mul : (x : A) → R.mul R.nought x ≡ R.nought
  nought_mul x = R.mul_comm R.nought x ∙ mul_nought x

  pub mul_neg : (x y : A) → R.mul x (R.neg y) ≡ R.neg (R.mul x y)
  mul_neg x y = neg_unique (R.mul x y) (R.mul x (R.neg y)) (sym (R.mul_add x y (R.neg y)) ∙ ap (λ a. R.mul x a) (R.add_neg y) ∙ mul_nought x)

  pub neg_mul : (x y : A) → R.mul (R.neg x) y ≡ R.neg (R.mul x y)
  neg_mul x y = R.mul_comm (R.neg x) y ∙ mul_neg y x ∙ ap R.neg (R.mul_comm y x)

-- multiplies out, sorts sums and products, moves negatives inwards and lets opposite neighbours vanish
pub ruleset ring_rules = (nought_add, add_nought, add_neg, neg_add_self, add_neg_add, neg_add_add, neg_neg, neg_nought, neg_add, mul_nought, nought_mul, mul_neg, neg_mul, mul_one, one_mul, mul_add, add_mul, add_assoc, add_comm, add_left_comm, mul_assoc, mul_comm, mul_left_comm)

-- sorts sums alone
pub ruleset sum_rules = (nought_add, add_nought, add_assoc, add_comm, add_left_comm)

-- sorts products alone
pub ruleset product_rules = (mul_one, one_mul, mul_nought, nought_mul, mul_assoc, mul_comm, mul_left_comm)
