-- The formulas give groups.
use Rattle.group_make.proofs.Names.{◌≡◌, ℕ, zero, suc, ◌+◌, ◌-◌, ◌*◌, ◌/◌, ◌%◌, ◌^◌, ◌<◌, ◌≤◌, ◌⊎◌, inl, inr, sym, ap, subst, ◌∙◌, arith, mod-lt, mod-eq_of_lt, add-mul, add-mul-mod_self_left, pow-zero, mul_comm, one-mul, mul-one, pow-add, Same, same_refl, same_of, same_sym, same_trans, same_add_left, same_add_right, same_mul_right, same_lin, same_multiple, IsGroupBelow, pair, cyclic_product, reflected, dihedral_product, dicyclic_product, triple_product, semidirect_product}
use Rattle.std.proofs.Math.Dec.{eqb-suc-zero}
use Rattle.group_make.proofs.Tables.{same_group}
use Rattle.group_make.proofs.Extensions.{cyclic_below, IsFactorSet, moved, extended, extension}

-- the same group with its order written otherwise
pub of_order : (n m u : ℕ) (op : ℕ → ℕ → ℕ) → n ≡ m → IsGroupBelow n op u → IsGroupBelow m op u
of_order n m u op e B = subst (λ k. IsGroupBelow k op u) e B

-- no factor set
abbrev none : ℕ → ℕ → ℕ
none i j = 0

-- no action
abbrev still : ℕ → ℕ
still i = 1

-- 1 by its powers
abbrev powers : ℕ → ℕ → ℕ
powers r i = r ^ i

below_or_from : (a b : ℕ) → (a < b) ⊎ (b ≤ a)
below_or_from a b = grind arith

-- an action whose power m is 1 depends on the exponent modulo m
power_round : (n m r i j : ℕ) → r ^ m % n ≡ 1 % n → i < m → j < m → Same n (r ^ (i + j)) (r ^ ((i + j) % m))
power_round n m r i j action p q =
    elim (below_or_from (i + j) m) [
      | inl less ↦ same_of n (ap (λ k. r ^ k) (sym (mod-eq_of_lt less)))
      | inr more ↦ past (i + j - m) (omega arith) (omega arith)
    ]
  where
    past : (d : ℕ) → i + j ≡ m + d → d < m → Same n (r ^ (i + j)) (r ^ ((i + j) % m))
    past d sum below =
        let rest : (i + j) % m ≡ d = ap (λ k. k % m) (let e : i + j ≡ d + m * 1 = omega arith in e) ∙ add-mul-mod_self_left d m 1 ∙ mod-eq_of_lt below in
        let one : Same n (r ^ m) 1 = record { same = action } in
        rw (rest, sum, pow-add r m d) (same_trans (same_mul_right (r ^ d) one) (same_of n (one-mul (r ^ d))))

pub semidirect_below : (n m r : ℕ) → 0 < n → 0 < m → r ^ m % n ≡ 1 % n → IsGroupBelow (n * m) (semidirect_product n m r) (pair n 0 0)
semidirect_below n m r n_positive m_positive action =
    same_group (n * m) (pair n 0 0) (extended n (cyclic_product m) (powers r) none) (semidirect_product n m r)
    (extension n m (cyclic_product m) 0 (powers r) none F)
    (λ g h p q. ap (λ x. pair n (x % n) ((g / n + h / n) % m)) (let e : g % n + r ^ (g / n) * (h % n) ≡ g % n + r ^ (g / n) * (h % n) + 0 = omega arith in e))
  where
    F : IsFactorSet n m (cyclic_product m) 0 (powers r) none
    F = record {
      positive = n_positive;
      group = cyclic_below m m_positive;
      acts_by_one = same_of n (pow-zero r);
      acts = λ i j p q. same_trans (same_of n (sym (pow-add r i j))) (power_round n m r i j action p q);
      left = λ j p. same_refl n 0;
      right = λ i p. same_refl n 0;
      factor = λ i j k p q l. same_of n (let e : 0 + 0 ≡ r ^ i * 0 + 0 = omega arith in e);
    }

-- the product of cyclic groups: no action and no factor set
still_set : (n m u : ℕ) (op : ℕ → ℕ → ℕ) → 0 < n → IsGroupBelow m op u → IsFactorSet n m op u still none
still_set n m u op positive B = record {
  positive = positive;
  group = B;
  acts_by_one = same_refl n 1;
  acts = λ i j p q. same_refl n 1;
  left = λ j p. same_refl n 0;
  right = λ i p. same_refl n 0;
  factor = λ i j k p q l. same_refl n 0;
}

turned : (x y y' z z' b c : ℕ) → (x * b + (y + y') % b) * c + (z + z') % c ≡ (z + 1 * z' + 0) % c + c * ((y + 1 * y' + 0) % b + b * x)
turned x y y' z z' b c =
    let plain : (u v : ℕ) → u + 1 * v + 0 ≡ u + v = λ u v. omega arith in
    let row : x * b + (y + y') % b ≡ (y + y') % b + b * x = rw (mul_comm x b) (omega arith) in
    rw (plain z z', plain y y', row, mul_comm ((y + y') % b + b * x) c) (omega arith)

pub product_below : (a b c : ℕ) → 0 < a → 0 < b → 0 < c → IsGroupBelow (a * b * c) (triple_product a b c) 0
product_below a b c p q r =
    let one : IsGroupBelow (b * a) pairs (pair b 0 0) = extension b a (cyclic_product a) 0 still none (still_set b a 0 (cyclic_product a) q (cyclic_below a p)) in
    let two : IsGroupBelow (c * (b * a)) triples (pair c 0 (pair b 0 0)) = extension c (b * a) pairs (pair b 0 0) still none (still_set c (b * a) (pair b 0 0) pairs r one) in
    let unit : pair c 0 (pair b 0 0) ≡ 0 = omega arith in
    subst (λ u. IsGroupBelow (a * b * c) (triple_product a b c) u) unit
    (same_group (a * b * c) (pair c 0 (pair b 0 0)) triples (triple_product a b c) (of_order (c * (b * a)) (a * b * c) _ triples order two) same)
  where
    pairs : ℕ → ℕ → ℕ
    pairs = extended b (cyclic_product a) still none

    triples : ℕ → ℕ → ℕ
    triples = extended c pairs still none

    order : c * (b * a) ≡ a * b * c
    order = rw (mul_comm b a) (mul_comm c (a * b))

    same : (g h : ℕ) → g < a * b * c → h < a * b * c → triple_product a b c g h ≡ triples g h
    same g h p q = turned ((g / c / b + h / c / b) % a) (g / c % b) (h / c % b) (g % c) (h % c) b c

-- -1 to the power j, as a number modulo n
abbrev sign : ℕ → ℕ → ℕ
sign n zero = 1
sign n (suc j) = n - 1

-- n - 1 is -1 modulo n
minus_one : (n y : ℕ) → 0 < n → y ≤ n → Same n ((n - 1) * y) (n - y)
minus_one n y positive below =
    let scaled : (n - 1) * y + y ≡ n * y = sym (ap (λ z. (n - 1) * y + z) (one-mul y)) ∙ sym (add-mul (n - 1) 1 y) ∙ ap (λ z. z * y) (let e : n - 1 + 1 ≡ n = omega arith in e) in
    let multiple : Same n (n * y) n =
    same_trans (same_trans (same_of n (mul_comm n y)) (same_multiple n y)) (same_sym (same_trans (same_of n (sym (one-mul n))) (same_multiple n 1))) in
    same_lin n _ _ (n * y) n multiple (omega (arith, scaled))

reflected_is : (n j y : ℕ) → 0 < n → y ≤ n → Same n (reflected n j y) (sign n j * y)
reflected_is n zero y positive below = same_of n (sym (one-mul y))
reflected_is n (suc j) y positive below = rw (eqb-suc-zero j) (same_sym (minus_one n y positive below))

signs : (n i j : ℕ) → 0 < n → i < 2 → j < 2 → Same n (sign n i * sign n j) (sign n ((i + j) % 2))
signs n zero zero positive p q = same_refl n 1
signs n zero (suc zero) positive p q = same_of n (one-mul (n - 1))
signs n (suc zero) zero positive p q = same_of n (mul-one (n - 1))
signs n (suc zero) (suc zero) positive p q = same_trans (minus_one n (n - 1) positive (omega arith)) (same_of n (omega arith))
signs n (suc (suc i)) j positive p q = absurd (omega arith)
signs n zero (suc (suc j)) positive p q = absurd (omega arith)
signs n (suc zero) (suc (suc j)) positive p q = absurd (omega arith)

pub dihedral_below : (n : ℕ) → 0 < n → IsGroupBelow (2 * n) (dihedral_product n) (pair n 0 0)
dihedral_below n positive =
    same_group (2 * n) (pair n 0 0) (extended n (cyclic_product 2) (sign n) none) (dihedral_product n)
    (of_order (n * 2) (2 * n) _ _ (mul_comm n 2) (extension n 2 (cyclic_product 2) 0 (sign n) none F))
    (λ g h p q. ap (λ x. pair n x ((g / n + h / n) % 2)) (same g h))
  where
    F : IsFactorSet n 2 (cyclic_product 2) 0 (sign n) none
    F = record {
      positive = positive;
      group = cyclic_below 2 (omega arith);
      acts_by_one = same_refl n 1;
      acts = λ i j p q. signs n i j positive p q;
      left = λ j p. same_refl n 0;
      right = λ i p. same_refl n 0;
      factor = λ i j k p q l. same_of n (let e : 0 + 0 ≡ sign n i * 0 + 0 = omega arith in e);
    }

    same : (g h : ℕ) → (g % n + reflected n (g / n) (h % n)) % n ≡ moved n (g % n) (sign n (g / n)) (h % n) 0
    same g h =
        let below : h % n < n = mod-lt h positive in
        let acted : Same n (reflected n (g / n) (h % n)) (sign n (g / n) * (h % n)) = reflected_is n (g / n) (h % n) positive (omega arith) in
        (same_trans (same_add_left (g % n) acted) (same_of n (let e : g % n + sign n (g / n) * (h % n) ≡ g % n + sign n (g / n) * (h % n) + 0 = omega arith in e))).same

-- the square of (0, 1) is n
abbrev square : ℕ → ℕ → ℕ → ℕ
square n i j = n * (i * j)

square_factor : (n i j k : ℕ) → 0 < n → i < 2 → j < 2 → k < 2
    → Same (2 * n) (n * (i * j) + n * (((i + j) % 2) * k)) (sign (2 * n) i * (n * (j * k)) + n * (i * ((j + k) % 2)))
square_factor n zero zero zero positive p q r = same_of (2 * n) (omega arith)
square_factor n zero zero (suc zero) positive p q r = same_of (2 * n) (omega arith)
square_factor n zero (suc zero) zero positive p q r = same_of (2 * n) (omega arith)
square_factor n zero (suc zero) (suc zero) positive p q r = same_of (2 * n) (omega arith)
square_factor n (suc zero) zero zero positive p q r = same_of (2 * n) (omega arith)
square_factor n (suc zero) zero (suc zero) positive p q r = same_of (2 * n) (omega arith)
square_factor n (suc zero) (suc zero) zero positive p q r = same_of (2 * n) (omega arith)
square_factor n (suc zero) (suc zero) (suc zero) positive p q r =
    let once : n * 1 ≡ n = mul-one n in
    let back : Same (2 * n) ((2 * n - 1) * n) n = same_trans (minus_one (2 * n) n (omega arith) (omega arith)) (same_of (2 * n) (omega arith)) in
    rw once
    (same_trans (same_of (2 * n) (let e : n + n * 0 ≡ n = omega arith in e))
    (same_trans (same_sym back) (same_of (2 * n) (let e : (2 * n - 1) * n ≡ (2 * n - 1) * n + n * 0 = omega arith in e))))
square_factor n (suc (suc i)) j k positive p q r = absurd (omega arith)
square_factor n zero (suc (suc j)) k positive p q r = absurd (omega arith)
square_factor n (suc zero) (suc (suc j)) k positive p q r = absurd (omega arith)
square_factor n zero zero (suc (suc k)) positive p q r = absurd (omega arith)
square_factor n zero (suc zero) (suc (suc k)) positive p q r = absurd (omega arith)
square_factor n (suc zero) zero (suc (suc k)) positive p q r = absurd (omega arith)
square_factor n (suc zero) (suc zero) (suc (suc k)) positive p q r = absurd (omega arith)

pub dicyclic_below : (n : ℕ) → 0 < n → IsGroupBelow (4 * n) (dicyclic_product n) (pair (2 * n) 0 0)
dicyclic_below n positive =
    same_group (4 * n) (pair (2 * n) 0 0) (extended (2 * n) (cyclic_product 2) (sign (2 * n)) (square n)) (dicyclic_product n)
    (of_order ((2 * n) * 2) (4 * n) _ _ (omega arith) (extension (2 * n) 2 (cyclic_product 2) 0 (sign (2 * n)) (square n) F))
    (λ g h p q. ap (λ x. pair (2 * n) x ((g / (2 * n) + h / (2 * n)) % 2)) (same g h))
  where
    m_positive : 0 < (2 * n)
    m_positive = omega arith

    F : IsFactorSet (2 * n) 2 (cyclic_product 2) 0 (sign (2 * n)) (square n)
    F = record {
      positive = m_positive;
      group = cyclic_below 2 (omega arith);
      acts_by_one = same_refl (2 * n) 1;
      acts = λ i j p q. signs (2 * n) i j m_positive p q;
      left = λ j p. same_of (2 * n) (let e : n * (0 * j) ≡ 0 = omega arith in e);
      right = λ i p. same_of (2 * n) (let e : n * (i * 0) ≡ 0 = omega arith in e);
      factor = λ i j k p q l. square_factor n i j k positive p q l;
    }

    same : (g h : ℕ) → (g % (2 * n) + reflected (2 * n) (g / (2 * n)) (h % (2 * n)) + square n (g / (2 * n)) (h / (2 * n))) % (2 * n) ≡ moved (2 * n) (g % (2 * n)) (sign (2 * n) (g / (2 * n))) (h % (2 * n)) (square n (g / (2 * n)) (h / (2 * n)))
    same g h =
        let below : h % (2 * n) < (2 * n) = mod-lt h m_positive in
        let acted : Same (2 * n) (reflected (2 * n) (g / (2 * n)) (h % (2 * n))) (sign (2 * n) (g / (2 * n)) * (h % (2 * n))) = reflected_is (2 * n) (g / (2 * n)) (h % (2 * n)) m_positive (omega arith) in
        (same_add_right (square n (g / (2 * n)) (h / (2 * n))) (same_add_left (g % (2 * n)) acted)).same
