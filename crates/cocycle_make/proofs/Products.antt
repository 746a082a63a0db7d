-- Carries, and the coordinates of a product of triples.
use Rattle.cocycle_make.proofs.Names.{◌≡◌, ℕ, ◌+◌, ◌-◌, ◌*◌, ◌/◌, ◌%◌, ◌<◌, ◌≤◌, Bool, true, false, nat_le, cond, refl, sym, ap, ◌∙◌, arith, mod-lt, mod-eq_of_lt, add-mod-mod, mod-add-mod, add-mul-mod_self_left, eq_of_mul-eq-mul_left, mul-add, div-mul-add, mod-mul-add, leb-true, leb-false, triple_product, carry}

-- the carry is what the remainder leaves
pub carry_is : (b y z : ℕ) → y < b → z < b → b * carry b y z + (y + z) % b ≡ y + z
carry_is b y z p q = by (nat_le b (y + z)) refl
  where
    by : (t : Bool) → nat_le b (y + z) ≡ t → b * cond t 1 0 + (y + z) % b ≡ y + z
    by true e =
        let over : b ≤ y + z = leb-true b (y + z) e in
        let rest : (y + z) % b ≡ y + z - b = ap (λ k. k % b) (let s : y + z ≡ y + z - b + b * 1 = omega arith in s) ∙ add-mul-mod_self_left (y + z - b) b 1 ∙ mod-eq_of_lt (omega arith) in
        omega arith
    by false e =
        let under : y + z < b = leb-false b (y + z) e in
        let rest : (y + z) % b ≡ y + z = mod-eq_of_lt under in
        omega arith

pub carry_zero_left : (b z : ℕ) → z < b → carry b 0 z ≡ 0
carry_zero_left b z q = by (nat_le b (0 + z)) refl
  where
    by : (t : Bool) → nat_le b (0 + z) ≡ t → (let c : ℕ = cond t 1 0 in c) ≡ 0
    by true e = absurd (let over : b ≤ 0 + z = leb-true b (0 + z) e in omega arith)
    by false e = refl

pub carry_zero_right : (b y : ℕ) → y < b → carry b y 0 ≡ 0
carry_zero_right b y q = by (nat_le b (y + 0)) refl
  where
    by : (t : Bool) → nat_le b (y + 0) ≡ t → (let c : ℕ = cond t 1 0 in c) ≡ 0
    by true e = absurd (let over : b ≤ y + 0 = leb-true b (y + 0) e in omega arith)
    by false e = refl

-- carries are a 2-cocycle
pub carry_closed : (b h k l : ℕ) → h < b → k < b → l < b → carry b h k + carry b ((h + k) % b) l ≡ carry b k l + carry b h ((k + l) % b)
carry_closed b h k l p q r =
    let positive : 0 < b = omega arith in
    let one = carry_is b h k p q in
    let two = carry_is b ((h + k) % b) l (mod-lt (h + k) positive) r in
    let three = carry_is b k l q r in
    let four = carry_is b h ((k + l) % b) p (mod-lt (k + l) positive) in
    let end : ((h + k) % b + l) % b ≡ (h + (k + l) % b) % b = mod-add-mod (h + k) b l ∙ ap (λ z. z % b) (let s : h + k + l ≡ h + (k + l) = omega arith in s) ∙ sym (add-mod-mod h (k + l) b) in
    eq_of_mul-eq-mul_left b positive _ _
    (mul-add b (carry b h k) (carry b ((h + k) % b) l) ∙ (let sum : b * carry b h k + b * carry b ((h + k) % b) l ≡ b * carry b k l + b * carry b h ((k + l) % b) = omega (arith, one, two, three, four, end) in sum)
    ∙ sym (mul-add b (carry b k l) (carry b h ((k + l) % b))))

-- the coordinates of a product of triples
module _ (a b c : ℕ) (b_positive : 0 < b) (c_positive : 0 < c) (g h : ℕ) where
  pub pair_of : triple_product a b c g h / c ≡ (g / c / b + h / c / b) % a * b + (g / c % b + h / c % b) % b
  pair_of = div-mul-add _ c _ (mod-lt (g % c + h % c) c_positive)

  pub first_of : triple_product a b c g h / c / b ≡ (g / c / b + h / c / b) % a
  first_of = ap (λ z. z / b) pair_of ∙ div-mul-add _ b _ (mod-lt (g / c % b + h / c % b) b_positive)

  pub second_of : triple_product a b c g h / c % b ≡ (g / c % b + h / c % b) % b
  second_of = ap (λ z. z % b) pair_of ∙ mod-mul-add _ b _ (mod-lt (g / c % b + h / c % b) b_positive)

  pub third_of : triple_product a b c g h % c ≡ (g % c + h % c) % c
  third_of = mod-mul-add _ c _ (mod-lt (g % c + h % c) c_positive)
