-- The order of an element: it exists, it divides what gives the identity, and the size of the group.
use Rattle.std.proofs.Common.{◌≡◌, ◌≢◌, ℕ, zero, suc, ◌+◌, ◌-◌, ◌*◌, ◌%◌, ◌<◌, ◌≤◌, Bool, true, false, leb, refl, sym, ap, ◌∙◌, inl, inr, arith, mod-lt, mul-one, le_antisymm, eq-eqb, leb-true, le-leb}
use Prim.Native.Nat.{◌∣◌}
use Rattle.std.proofs.lemmas.Bool.{cases_eq, cases_lt, cases_order}
use Rattle.scan.specs.First.{all_below}
use Rattle.scan.proofs.Places.{all_below-at, all_below-all}
use Rattle.orders.specs.Group.{IsGroupBelow, power}
use Rattle.orders.specs.Order.{IsOrder, order_of, is_unit_power}
use Rattle.orders.proofs.Sums.{total, pick, total_same, total_constant, total_exchange, total_at, total_permuted, pigeonhole}
use Rattle.orders.proofs.Least.{IsScanned, scanned}
use Rattle.orders.proofs.Powers.{power_below, power_add, power_modulo, power_repeats, cancel_left}

-- the least value of f at the numbers up to k
least_up_to : (k : ℕ) (f : ℕ → ℕ) → (i : ℕ) × (i < suc k) × ((j : ℕ) → j < suc k → f i ≤ f j)
least_up_to zero f = (0, omega arith, λ j p. let e : j ≡ 0 = omega arith in rw e (omega arith))
least_up_to (suc k) f =
    let (i, below, least) = least_up_to k f in
    elim (cases_lt (f (suc k)) (f i)) [
      | inl less ↦ (suc k, omega arith, λ j p. elim (cases_eq j (suc k)) [ inl e ↦ rw e (omega arith) | inr d ↦ omega (arith, least j (omega arith)) ])
      | inr most ↦ (i, omega arith, λ j p. elim (cases_eq j (suc k)) [ inl e ↦ rw e most | inr d ↦ least j (omega arith) ])
    ]

-- the least value of f below k
least_value : (k : ℕ) (f : ℕ → ℕ) → 0 < k → (i : ℕ) × (i < k) × ((j : ℕ) → j < k → f i ≤ f j)
least_value zero f p = absurd (omega arith)
least_value (suc k) f p = least_up_to k f

-- nothing is picked where the test does not hold
pick_false : (b : Bool) (v : ℕ) → (b ≡ true → ⊥) → pick b v ≡ 0
pick_false true v fails = absurd (fails refl)
pick_false false v fails = refl

module _ (n : ℕ) (op : ℕ → ℕ → ℕ) (unit : ℕ) (G : IsGroupBelow n op unit) where
  -- where no power from 1 to n is the identity, the powers from 0 to n differ
  fails_apart : (g : ℕ) → g < n → ((j : ℕ) → 1 ≤ j → j ≤ n → is_unit_power op unit g j ≡ false) →
      (i j : ℕ) → i < j → j < suc n → power op unit g i ≢ power op unit g j
  fails_apart g p fail i j less most e =
      let whole : j ≡ i + (j - i) = omega arith in
      let gives = power_repeats n op unit G g i (j - i) p (e ∙ ap (power op unit g) whole) in
      let right = eq-eqb _ _ gives in
      let wrong = fail (j - i) (omega arith) (omega arith) in
      cc

  -- the scan finds a power from 1 to n that is the identity
  pub order_scanned : (g : ℕ) → g < n → IsScanned n (is_unit_power op unit g) (order_of n op unit g)
  unfolding order_of
  order_scanned g p =
      elim (scanned n (is_unit_power op unit g)) [
        | inl fail ↦ absurd (pigeonhole n (power op unit g) (λ i q. power_below n op unit G g i p) (fails_apart g p fail))
        | inr found ↦ found
      ]

  module _ (g k : ℕ) (below : g < n) (order : IsOrder op unit g k) where
    -- x times the i-th power
    walk : ℕ → ℕ → ℕ
    walk x i = op x (power op unit g i)

    -- a step leads to an element
    walk_below : (x i : ℕ) → x < n → walk x i < n
    unfolding walk
    walk_below x i p = G.closed x (power op unit g i) p (power_below n op unit G g i below)

    -- a step after a step
    walk_walk : (x i j : ℕ) → x < n → walk (walk x i) j ≡ walk x (i + j)
    unfolding walk
    walk_walk x i j p =
        G.associative x (power op unit g i) (power op unit g j) p (power_below n op unit G g i below) (power_below n op unit G g j below)
        ∙ ap (λ y. op x y) (sym (power_add n op unit G g i j below))

    -- steps count modulo the order
    walk_modulo : (x j : ℕ) → walk x (j % k) ≡ walk x j
    unfolding walk
    walk_modulo x j = ap (λ y. op x y) (power_modulo n op unit G g k j below order.gives_unit)

    -- the step by the order stays
    walk_order : (x : ℕ) → x < n → walk x k ≡ x
    unfolding walk
    walk_order x p = ap (λ y. op x y) order.gives_unit ∙ G.unit_right x p

    -- steps below the order differ
    walks_differ : (x i j : ℕ) → x < n → i < j → j < k → walk x i ≢ walk x j
    unfolding walk
    walks_differ x i j p less last e =
        let whole : j ≡ i + (j - i) = omega arith in
        let same : power op unit g i ≡ power op unit g j =
        cancel_left n op unit G _ _ x (power_below n op unit G g i below) (power_below n op unit G g j below) p e in
        omega (arith, order.least (j - i) (omega arith) (power_repeats n op unit G g i (j - i) below (same ∙ ap (power op unit g) whole)))

    -- from x no number is reached by two steps below the order
    walk_once : (x i j : ℕ) → x < n → i < k → j < k → walk x i ≡ walk x j → i ≡ j
    walk_once x i j p q r e =
        elim (cases_order i j) [
          | inl same ↦ same
          | inr (inl less) ↦ absurd (walks_differ x i j p less r e)
          | inr (inr more) ↦ absurd (walks_differ x j i p more q (sym e))
        ]

    -- x is the least number that is reached from x
    is_first : ℕ → Bool
    is_first x = all_below k (λ i. leb x (walk x i))

    -- what the test says
    is_first_le : (x : ℕ) → is_first x ≡ true → (j : ℕ) → x ≤ walk x j
    unfolding is_first
    is_first_le x e j =
        rw (walk_modulo x j) at (leb-true _ _ (all_below-at k (j % k) (λ i. leb x (walk x i)) e (mod-lt j order.positive)))

    -- and when it holds
    is_first_from : (x : ℕ) → ((j : ℕ) → x ≤ walk x j) → is_first x ≡ true
    unfolding is_first
    is_first_from x least = all_below-all k (λ i. leb x (walk x i)) (λ i p. le-leb _ _ (least i))

    -- the step that leads to the least number reached from x
    least_step : (x : ℕ) → x < n → (i : ℕ) × (i < k) × ((j : ℕ) → walk x i ≤ walk x j)
    least_step x p =
        let (i, q, least) = least_value k (walk x) order.positive in
        (i, q, λ j. rw (walk_modulo x j) at (least (j % k) (mod-lt j order.positive)))

    -- a step that leads to a least number is the step to the least number reached from x
    same_step : (x i j : ℕ) → x < n → i < k → j < k → ((h : ℕ) → walk x i ≤ walk x h) → is_first (walk x j) ≡ true → j ≡ i
    same_step x i j p q r least e =
        let round : j + (k - j + i) ≡ k + i = omega arith in
        let reached : walk (walk x j) (k - j + i) ≡ walk x i =
        walk_walk x j (k - j + i) p ∙ ap (walk x) round ∙ sym (walk_walk x k i p) ∙ ap (λ y. walk y i) (walk_order x p) in
        let most : walk x j ≤ walk x i = rw reached at (is_first_le (walk x j) e (k - j + i)) in
        walk_once x j i p r q (le_antisymm most (least j))

    -- from each number exactly one step below the order leads to a least one
    one_first : (x : ℕ) → x < n → total k (λ i. pick (is_first (walk x i)) 1) ≡ 1
    one_first x p =
        let (i, q, least) = least_step x p in
        let here : is_first (walk x i) ≡ true =
        is_first_from (walk x i) (λ j. rw (walk_walk x i j p) (least (i + j))) in
        total_at k (λ i. pick (is_first (walk x i)) 1) i q
        (λ j r d. pick_false (is_first (walk x j)) 1 (λ e. d (same_step x i j p q r least e)))
        ∙ ap (λ b. pick b 1) here

    -- a step is a permutation
    step_total : (f : ℕ → ℕ) (i : ℕ) → i < k → total n (λ x. f (walk x i)) ≡ total n f
    step_total f i q =
        let there : i + (k - i) ≡ k = omega arith in
        let back : k - i + i ≡ k = omega arith in
        total_permuted n f (λ x. walk x i) (λ x. walk x (k - i)) (λ x p. walk_below x i p) (λ x p. walk_below x (k - i) p)
        (λ x p. walk_walk x i (k - i) p ∙ ap (walk x) there ∙ walk_order x p)
        (λ x p. walk_walk x (k - i) i p ∙ ap (walk x) back ∙ walk_order x p)

    -- how many numbers below n are the least that are reached from them
    count_of_firsts : ℕ
    count_of_firsts = total n (λ x. pick (is_first x) 1)

    -- each number counted once, by the step that leads to a least one; the steps exchanged with the numbers
    size_is : n ≡ k * count_of_firsts
    unfolding count_of_firsts
    size_is =
        sym (mul-one n) ∙ sym (total_constant n 1)
        ∙ total_same n (λ x. 1) (λ x. total k (λ i. pick (is_first (walk x i)) 1)) (λ x p. sym (one_first x p))
        ∙ total_exchange n k (λ x i. pick (is_first (walk x i)) 1)
        ∙ total_same k (λ i. total n (λ x. pick (is_first (walk x i)) 1)) (λ i. total n (λ x. pick (is_first x) 1))
        (λ i q. step_total (λ x. pick (is_first x) 1) i q)
        ∙ total_constant k (total n (λ x. pick (is_first x) 1))

  -- Lagrange's theorem for the powers of g
  pub order_divides_size : (g k : ℕ) → g < n → IsOrder op unit g k → k ∣ n
  order_divides_size g k below order = ∣ (count_of_firsts g k below order, size_is g k below order) ∣₁
