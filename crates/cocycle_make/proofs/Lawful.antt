-- The formulas give normalised 3-cocycles.
use Rattle.cocycle_make.proofs.Names.{◌≡◌, ℕ, ◌+◌, ◌*◌, ◌/◌, ◌%◌, ◌<◌, None, refl, ap, ◌∙◌, arith, mod-lt, zero-mod, zero-div, mul-add, add-mul, mod-mod_of_dvd, Same, same_refl, same_of, same_sym, same_trans, same_mod, same_add, same_add_left, same_mul_left, same_mul_right, same_add_multiple, Table, IsGroup, cyclic_product, triple_product, cocycle_fault, lawful, common_divisor, carry, roots_of, step_of, trivial_cocycle, type_one_cocycle, type_two_cocycle, divisor_of_three, type_three_cocycle}
use Rattle.std.proofs.lemmas.Nat.Gcd.{dvd_of_mod-eq-zero, mod-eq-zero_of_dvd, dvd_trans}
use Rattle.group_make.proofs.Extensions.{cyclic_below}
use Rattle.group_make.proofs.FormulaGroups.{product_below}
use Rattle.cocycle_make.proofs.Divisor.{Divides, divisor, lowest_terms}
use Rattle.cocycle_make.proofs.Cup.{lawful_by, IsCup, cup}
use Rattle.cocycle_make.proofs.Products.{carry_zero_left, carry_zero_right, carry_closed, pair_of, first_of, second_of, third_of}

pub trivial_lawful : (t : Table) (roots : ℕ) → IsGroup t → 0 < roots → cocycle_fault (trivial_cocycle t roots) ≡ None
trivial_lawful t roots T positive =
    lawful t T roots (λ x y z. 0)
    (record {
      first = λ h k p q. zero-mod roots;
      second = λ g k p q. zero-mod roots;
      third = λ g h p q. zero-mod roots;
      closed = λ g h k l p q r s. same_refl roots 0;
    })

pub type_one_lawful : (n p : ℕ) → 0 < n → cocycle_fault (type_one_cocycle n p) ≡ None
type_one_lawful n p positive = lawful_by n 0 (cyclic_product n) (cyclic_below n positive) (roots_of n p) _ (cup n (cyclic_product n) 0 n (roots_of n p) (step_of n p) (λ x. x) (carry n) C)
  where
    C : IsCup n (cyclic_product n) 0 n (roots_of n p) (step_of n p) (λ x. x) (carry n)
    C = record {
      turns = (lowest_terms n p positive).turns;
      additive = λ g h p q. same_mod n (g + h);
      unit = refl;
      left = λ h p. carry_zero_left n h p;
      right = λ h p. carry_zero_right n h p;
      closed = λ h k l p q r. same_of n (carry_closed n h k l p q r);
    }

pub type_two_lawful : (a b p : ℕ) → 0 < a → 0 < b → cocycle_fault (type_two_cocycle a b p) ≡ None
type_two_lawful a b p a_positive b_positive =
    lawful_by (1 * a * b) 0 op (product_below 1 a b (omega arith) a_positive b_positive) (roots_of a p) _
    (cup (1 * a * b) op 0 a (roots_of a p) (step_of a p) first pairs C)
  where
    op : ℕ → ℕ → ℕ
    op = triple_product 1 a b

    first : ℕ → ℕ
    first x = x / b

    pairs : ℕ → ℕ → ℕ
    pairs y z = carry b (y % b) (z % b)

    additive : (g h : ℕ) → Same a (triple_product 1 a b g h / b) (g / b + h / b)
    additive g h =
        same_trans (same_of a (pair_of 1 a b a_positive b_positive g h))
        (same_trans (same_of a (let turn : (g / b / a + h / b / a) % 1 * a + (g / b % a + h / b % a) % a ≡ (g / b % a + h / b % a) % a + (g / b / a + h / b / a) % 1 * a = omega arith in turn))
        (same_trans (same_add_multiple a _ _) (same_trans (same_mod a _) (same_add (same_mod a (g / b)) (same_mod a (h / b))))))

    zero_below : (h : ℕ) → h % b < b
    zero_below h = mod-lt h b_positive

    C : IsCup (1 * a * b) op 0 a (roots_of a p) (step_of a p) first pairs
    C = record {
      turns = (lowest_terms a p a_positive).turns;
      additive = λ g h p q. additive g h;
      unit = zero-div b;
      left = λ h p. rw (zero-mod b) (carry_zero_left b (h % b) (zero_below h));
      right = λ h p. rw (zero-mod b) (carry_zero_right b (h % b) (zero_below h));
      closed = λ h k l p q r.
          rw (third_of 1 a b a_positive b_positive h k, third_of 1 a b a_positive b_positive k l)
          (same_of a (carry_closed b (h % b) (k % b) (l % b) (zero_below h) (zero_below k) (zero_below l)));
    }

-- what divides n may take n away
same_divides : (t n x : ℕ) → n % t ≡ 0 → Same t (x % n) x
same_divides t n x e = record { same = mod-mod_of_dvd t x (dvd_of_mod-eq-zero t e) }

divides_trans : (t u n : ℕ) → u % t ≡ 0 → n % u ≡ 0 → n % t ≡ 0
divides_trans t u n e h = mod-eq-zero_of_dvd t (dvd_trans t (dvd_of_mod-eq-zero t e) (dvd_of_mod-eq-zero u h))

pub three_positive : (a b c : ℕ) → 0 < a → 0 < divisor_of_three a b c
three_positive a b c positive = (divisor (common_divisor a b) c (divisor a b positive).positive).positive

pub type_three_lawful : (a b c p : ℕ) → 0 < a → 0 < b → 0 < c → cocycle_fault (type_three_cocycle a b c p) ≡ None
type_three_lawful a b c p a_positive b_positive c_positive =
    lawful_by (a * b * c) 0 op (product_below a b c a_positive b_positive c_positive) (roots_of t p) _
    (cup (a * b * c) op 0 t (roots_of t p) (step_of t p) first pairs C)
  where
    op : ℕ → ℕ → ℕ
    op = triple_product a b c

    t : ℕ
    t = divisor_of_three a b c

    first : ℕ → ℕ
    first x = x / c / b

    pairs : ℕ → ℕ → ℕ
    pairs y z = y / c % b * (z % c)

    two : Divides a b (common_divisor a b)
    two = divisor a b a_positive

    three : Divides (common_divisor a b) c (divisor_of_three a b c)
    three = divisor (common_divisor a b) c two.positive

    of_first : (x : ℕ) → Same (divisor_of_three a b c) (x % a) x
    of_first x = same_divides (divisor_of_three a b c) a x (divides_trans _ _ a three.first two.first)

    of_second : (x : ℕ) → Same (divisor_of_three a b c) (x % b) x
    of_second x = same_divides (divisor_of_three a b c) b x (divides_trans _ _ b three.first two.last)

    of_third : (x : ℕ) → Same (divisor_of_three a b c) (x % c) x
    of_third x = same_divides (divisor_of_three a b c) c x three.last

    closed : (h k l : ℕ)
        → Same (divisor_of_three a b c) (h / c % b * (k % c) + triple_product a b c h k / c % b * (l % c)) (k / c % b * (l % c) + h / c % b * (triple_product a b c k l % c))
    closed h k l =
        let y = h / c % b in
        let y' = k / c % b in
        let z = k % c in
        let z' = l % c in
        let left : Same (divisor_of_three a b c) (y * z + triple_product a b c h k / c % b * z') (y * z + (y + y') * z') =
        same_add_left (y * z) (same_mul_right z' (same_trans (same_of _ (second_of a b c b_positive c_positive h k)) (of_second (y + y')))) in
        let right : Same (divisor_of_three a b c) (y' * z' + y * (triple_product a b c k l % c)) (y' * z' + y * (z + z')) =
        same_add_left (y' * z') (same_mul_left y (same_trans (same_of _ (third_of a b c b_positive c_positive k l)) (of_third (z + z')))) in
        let middle : y * z + (y + y') * z' ≡ y' * z' + y * (z + z') = rw (add-mul y y' z', mul-add y z z') (omega arith) in
        same_trans left (same_trans (same_of _ middle) (same_sym right))

    C : IsCup (a * b * c) op 0 t (roots_of t p) (step_of t p) first pairs
    C = record {
      turns = (lowest_terms (divisor_of_three a b c) p (three_positive a b c a_positive)).turns;
      additive = λ g h p q. same_trans (same_of _ (first_of a b c b_positive c_positive g h)) (of_first (g / c / b + h / c / b));
      unit = ap (λ z. z / b) (zero-div c) ∙ zero-div b;
      left = λ h p. let none : 0 / c % b ≡ 0 = ap (λ z. z % b) (zero-div c) ∙ zero-mod b in rw none (omega arith);
      right = λ h p. rw (zero-mod c) (omega arith);
      closed = λ h k l p q r. closed h k l;
    }
