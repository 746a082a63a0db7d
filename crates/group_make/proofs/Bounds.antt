-- Bounds of the numbers that the formulas work with.
use Rattle.group_make.proofs.Names.{◌≡◌, ℕ, zero, suc, Bool, true, false, nat_eq, cond, Some, None, ◌+◌, ◌*◌, ◌%◌, ◌^◌, ◌<◌, ◌≤◌, refl, sym, ap, ◌∙◌, arith, mul_comm, le-mul_of_pos_right, pow-suc, add-mod-mod, mul-add-lt, mul-le, mul-mod, mul-mod_first}
use Rattle.std.proofs.lemmas.Bool.{eqb-true}
use Rattle.group_make.specs.Refusal.{action_fault}
use Rattle.group_make.specs.declared.refusal.MakeRefusal.TheVariants.{Action}

-- the number of a triple, and that of its first two coordinates
pub record TripleFits (a b c x y z : ℕ) : Type 0 where
  pub row : x * b + y ≤ 60
  pub scaled : (x * b + y) * c ≤ 60
  pub all : (x * b + y) * c + z ≤ 60

pub triple_fits : (a b c x y z : ℕ) → 0 < c → a * b * c ≤ 60 → x < a → y < b → z < c → TripleFits a b c x y z
triple_fits a b c x y z positive few x_below y_below z_below =
    let row : x * b + y < b * a = mul-add-lt x b y a x_below y_below in
    let turned : b * a ≡ a * b = mul_comm b a in
    let all : (x * b + y) * c + z < c * (a * b) = mul-add-lt (x * b + y) c z (a * b) (omega arith) z_below in
    let order : c * (a * b) ≡ a * b * c = mul_comm c (a * b) in
    let more : a * b ≤ a * b * c = le-mul_of_pos_right (a * b) positive in
    record { row = omega (arith, row, turned, more); scaled = omega (arith, all, order); all = omega (arith, all, order) }

-- the product of two small numbers
pub product_small : (n x y : ℕ) → n ≤ 60 → x < n → y < n → x * y ≤ 3600
product_small n x y few p q = mul-le x y 60 60 (omega arith) (omega arith)

-- the factors of a small number
pub record SmallFactors (n m : ℕ) : Type 0 where
  pub left_positive : 0 < n
  pub right_positive : 0 < m
  pub left_few : n ≤ 60
  pub right_few : m ≤ 60

pub small_factors : (n m : ℕ) → 1 ≤ n * m → n * m ≤ 60 → SmallFactors n m
small_factors zero m positive few = absurd (omega arith)
small_factors (suc n) zero positive few = absurd (omega arith)
small_factors (suc n) (suc m) positive few =
    let left : suc n ≤ suc n * suc m = le-mul_of_pos_right (suc n) (omega arith) in
    let right : suc m ≤ suc m * suc n = le-mul_of_pos_right (suc m) (omega arith) in
    let turned : suc m * suc n ≡ suc n * suc m = mul_comm (suc m) (suc n) in
    record { left_positive = omega arith; right_positive = omega arith; left_few = omega (arith, left); right_few = omega (arith, right, turned) }

-- one more factor
pub power_more : (n r j power factor : ℕ) → power ≡ r ^ j % n → factor ≡ r % n → power * factor % n ≡ r ^ (j + 1) % n
power_more n r j power factor before reduced =
    let step : r ^ (j + 1) ≡ r ^ j * r = ap (λ k. r ^ k) (let e : j + 1 ≡ suc j = omega arith in e) ∙ pow-suc r j in
    rw (before, reduced, step) (sym (mul-mod (r ^ j) r n))

-- a factor may be reduced
pub moved_by_power : (n x r i y power rest : ℕ) → power ≡ r ^ i % n → (x + power * y) % n + rest ≡ (x + r ^ i * y) % n + rest
moved_by_power n x r i y power rest e =
    rw (e, ← add-mod-mod x (r ^ i % n * y) n, mul-mod_first (r ^ i) y n, add-mod-mod x (r ^ i * y) n) refl

test_holds : {A : Type 0} (b : Bool) (x : A) → cond b None (Some x) ≡ None → b ≡ true
test_holds true x e = refl
test_holds false x e = absurd cc

-- an action that is not refused
pub acts_once : (n m r : ℕ) → action_fault n m r ≡ None → r ^ m % n ≡ 1 % n
acts_once n m r accepted = eqb-true _ _ (test_holds (nat_eq (r ^ m % n) (1 % n)) (Action (r ^ m % n)) accepted)
