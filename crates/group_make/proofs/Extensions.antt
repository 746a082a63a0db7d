-- A group extended by a cyclic group, by an action through factors and a factor set (Schreier 1926).
use Rattle.group_make.proofs.Names.{◌≡◌, ℕ, ◌+◌, ◌-◌, ◌*◌, ◌/◌, ◌%◌, ◌<◌, ◌≤◌, refl, sym, ap, ◌∙◌, arith, mod-lt, mod-eq_of_lt, div-eq_of_lt, add-mul-mod_self_left, add-mul-div_left, mul-le-mul_left, mul-add, mul_assoc, one-mul, div_below, Same, same_of, same_sym, same_trans, same_mod, same_add, same_add_left, same_add_right, same_mul_left, same_mul_right, same_lin, same_equal, same_multiple, IsGroupBelow, pair, cyclic_product}
use mathlib.Core.Path.{ap₂}

-- pairs and their numbers

pub first_of : (n x i : ℕ) → x < n → pair n x i % n ≡ x
first_of n x i below = add-mul-mod_self_left x n i ∙ mod-eq_of_lt below

pub second_of : (n x i : ℕ) → x < n → pair n x i / n ≡ i
second_of n x i below =
    let none : x / n ≡ 0 = div-eq_of_lt below in
    let split : pair n x i / n ≡ x / n + i = add-mul-div_left x i (omega arith) in
    omega arith

pub pair_below : (n m x i : ℕ) → x < n → i < m → pair n x i < n * m
pair_below n m x i p q =
    let rows : n * (i + 1) ≤ n * m = mul-le-mul_left n (omega arith) in
    let row : n * (i + 1) ≡ n * i + n = omega (arith, mul-add n i 1) in
    omega (arith, rows, row)

pub second_below : (n m g : ℕ) → 0 < n → g < n * m → g / n < m
second_below n m g positive below = div_below g n m positive (omega arith)

pub whole : (n g : ℕ) → 0 < n → pair n (g % n) (g / n) ≡ g
whole n g positive = omega arith

-- addition modulo n

pub cyclic_below : (n : ℕ) → 0 < n → IsGroupBelow n (cyclic_product n) 0
cyclic_below n positive = record {
  unit_below = positive;
  closed = λ g h p q. mod-lt (g + h) positive;
  unit_left = λ g p. ap (λ z. z % n) (let e : 0 + g ≡ g = omega arith in e) ∙ mod-eq_of_lt p;
  unit_right = λ g p. ap (λ z. z % n) (let e : g + 0 ≡ g = omega arith in e) ∙ mod-eq_of_lt p;
  right_inverse = λ g p. (
    (n - g) % n,
    mod-lt (n - g) positive,
    same_equal (mod-lt _ positive) positive
        (same_trans (same_mod n _) (same_trans (same_add_left g (same_mod n (n - g))) (same_trans (same_of n (let e : g + (n - g) ≡ 1 * n = omega arith in e)) (same_multiple n 1)))),
  );
  associative = λ g h k p q r.
      (same_trans (same_add_right k (same_mod n (g + h))) (same_trans (same_of n (let e : g + h + k ≡ g + (h + k) = omega arith in e)) (same_add_left g (same_sym (same_mod n (h + k)))))).same;
}

-- what an extension is made of: a group below m, whose element i acts on the numbers modulo n as the factor s i, and a factor set f
pub record IsFactorSet (n m : ℕ) (op : ℕ → ℕ → ℕ) (unit : ℕ) (s : ℕ → ℕ) (f : ℕ → ℕ → ℕ) : Type 0 where
  pub positive : 0 < n
  pub group : IsGroupBelow m op unit
  pub acts_by_one : Same n (s unit) 1
  pub acts : (i j : ℕ) → i < m → j < m → Same n (s i * s j) (s (op i j))
  pub left : (j : ℕ) → j < m → Same n (f unit j) 0
  pub right : (i : ℕ) → i < m → Same n (f i unit) 0
  pub factor : (i j k : ℕ) → i < m → j < m → k < m → Same n (f i j + f (op i j) k) (s i * f j k + f i (op j k))

-- the first coordinate of a product
abbrev pub moved : ℕ → ℕ → ℕ → ℕ → ℕ → ℕ
moved n x s y f = (x + s * y + f) % n

abbrev pub extended : ℕ → (ℕ → ℕ → ℕ) → (ℕ → ℕ) → (ℕ → ℕ → ℕ) → ℕ → ℕ → ℕ
extended n op s f g h = pair n (moved n (g % n) (s (g / n)) (h % n) (f (g / n) (h / n))) (op (g / n) (h / n))

moved_associates : (n x y z s t st f g h k : ℕ) → Same n (s * t) st → Same n (f + g) (s * h + k)
    → moved n (moved n x s y f) st z g ≡ moved n x s (moved n y t z h) k
moved_associates n x y z s t st f g h k acts factor =
    let left : Same n (moved n x s y f + st * z + g) (x + s * y + f + st * z + g) = same_add_right g (same_add_right (st * z) (same_mod n (x + s * y + f))) in
    let right : Same n (x + s * moved n y t z h + k) (x + s * (y + t * z + h) + k) = same_add_right k (same_add_left x (same_mul_left s (same_mod n (y + t * z + h)))) in
    let parts : Same n (f + g + st * z) (s * h + k + s * t * z) = same_add factor (same_sym (same_mul_right z acts)) in
    let out : s * (y + t * z + h) ≡ s * y + s * t * z + s * h = rw (mul-add s (y + t * z) h, mul-add s y (t * z), mul_assoc s t z) refl in
    let middle : Same n (x + s * y + f + st * z + g) (x + s * (y + t * z + h) + k) = same_lin n _ _ _ _ parts (omega (arith, out)) in
    (same_trans left (same_trans middle (same_sym right))).same

-- the number that takes x to 0
moved_back : (n x s t st f : ℕ) → 0 < n → Same n (s * t) st → Same n st 1 → moved n x s (t * (n - (x + f) % n) % n) f ≡ 0
moved_back n x s t st f positive acts one =
    let rest = n - (x + f) % n in
    let below : (x + f) % n < n = mod-lt (x + f) positive in
    let back : Same n (s * (t * rest % n)) rest =
    same_trans (same_mul_left s (same_mod n (t * rest)))
    (same_trans (same_of n (sym (mul_assoc s t rest))) (same_trans (same_mul_right rest acts) (same_trans (same_mul_right rest one) (same_of n (one-mul rest))))) in
    let sum : Same n (x + f + rest) 0 =
    same_trans (same_add_right rest (same_sym (same_mod n (x + f)))) (same_trans (same_of n (let e : (x + f) % n + rest ≡ 1 * n = omega arith in e)) (same_multiple n 1)) in
    let moved_sum : Same n (x + s * (t * rest % n) + f) 0 = same_trans (same_add_right f (same_add_left x back)) (same_trans (same_of n (let e : x + rest + f ≡ x + f + rest = omega arith in e)) sum) in
    same_equal (mod-lt _ positive) positive (same_trans (same_mod n _) moved_sum)

module _ (n m : ℕ) (op : ℕ → ℕ → ℕ) (unit : ℕ) (s : ℕ → ℕ) (f : ℕ → ℕ → ℕ) (F : IsFactorSet n m op unit s f) where
  abbrev ext : ℕ → ℕ → ℕ
  ext = extended n op s f

  ext_first : (g h : ℕ) → ext g h % n ≡ moved n (g % n) (s (g / n)) (h % n) (f (g / n) (h / n))
  ext_first g h = first_of n _ (op (g / n) (h / n)) (mod-lt _ F.positive)

  ext_second : (g h : ℕ) → ext g h / n ≡ op (g / n) (h / n)
  ext_second g h = second_of n _ (op (g / n) (h / n)) (mod-lt _ F.positive)

  unit_first : pair n 0 unit % n ≡ 0
  unit_first = first_of n 0 unit F.positive

  unit_second : pair n 0 unit / n ≡ unit
  unit_second = second_of n 0 unit F.positive

  inverse_of : (g : ℕ) → g < n * m → (h : ℕ) × (h < n * m) × (ext g h ≡ pair n 0 unit)
  inverse_of g p =
      let i = g / n in
      let (j, j_below, right) = F.group.right_inverse i (second_below n m g F.positive p) in
      let y = s j * (n - (g % n + f i j) % n) % n in
      let y_below : y < n = mod-lt _ F.positive in
      let first : pair n y j % n ≡ y = first_of n y j y_below in
      let second : pair n y j / n ≡ j = second_of n y j y_below in
      let acts : Same n (s i * s j) (s unit) = rw right at (F.acts i j (second_below n m g F.positive p) j_below) in
      (pair n y j, pair_below n m y j y_below j_below, rw (first, second, right) (ap (λ x. pair n x unit) (moved_back n (g % n) (s i) (s j) (s unit) (f i j) F.positive acts F.acts_by_one)))

  -- the pairs of an extension are a group
  pub extension : IsGroupBelow (n * m) ext (pair n 0 unit)
  extension = record {
    unit_below = pair_below n m 0 unit F.positive F.group.unit_below;
    closed = λ g h p q.
        pair_below n m _ _ (mod-lt _ F.positive)
        (F.group.closed (g / n) (h / n) (second_below n m g F.positive p) (second_below n m h F.positive q));
    unit_left = λ g p.
        let i = second_below n m g F.positive p in
        let same : Same n (0 + s unit * (g % n) + f unit (g / n)) (g % n) =
        same_trans (same_add (same_add_left 0 (same_mul_right (g % n) F.acts_by_one)) (F.left (g / n) i)) (same_of n (let e : 0 + 1 * (g % n) + 0 ≡ g % n = omega arith in e)) in
        rw (unit_first, unit_second, F.group.unit_left (g / n) i)
        (ap (λ x. pair n x (g / n)) (same_equal (mod-lt _ F.positive) (mod-lt g F.positive) (same_trans (same_mod n _) same)) ∙ whole n g F.positive);
    unit_right = λ g p.
        let i = second_below n m g F.positive p in
        let same : Same n (g % n + s (g / n) * 0 + f (g / n) unit) (g % n) =
        same_trans (same_add_left (g % n + s (g / n) * 0) (F.right (g / n) i)) (same_of n (let e : g % n + s (g / n) * 0 + 0 ≡ g % n = omega arith in e)) in
        rw (unit_first, unit_second, F.group.unit_right (g / n) i)
        (ap (λ x. pair n x (g / n)) (same_equal (mod-lt _ F.positive) (mod-lt g F.positive) (same_trans (same_mod n _) same)) ∙ whole n g F.positive);
    right_inverse = inverse_of;
    associative = λ g h k p q r.
        let i = second_below n m g F.positive p in
        let j = second_below n m h F.positive q in
        let l = second_below n m k F.positive r in
        rw (ext_first g h, ext_second g h, ext_first h k, ext_second h k)
        (ap₂ (pair n)
        (moved_associates n (g % n) (h % n) (k % n) (s (g / n)) (s (h / n)) (s (op (g / n) (h / n))) (f (g / n) (h / n)) (f (op (g / n) (h / n)) (k / n)) (f (h / n) (k / n)) (f (g / n) (op (h / n) (k / n)))
        (F.acts (g / n) (h / n) i j) (F.factor (g / n) (h / n) (k / n) i j l))
        (F.group.associative (g / n) (h / n) (k / n) i j l));
  }
