-- The coefficients of (a t + b)^n in a ring that need not commute, and the trace of (a + b)^q in characteristic q. A function on the
-- natural numbers is read as the polynomial with the coefficient f k at t^k, and t commutes with all.
use Rattle.power_theory.proofs.Names.{◌≡◌, ℕ, zero, suc, ◌+◌, ◌-◌, ◌<◌, refl, sym, ◌∙◌, ap, arith, fun_ext, ap₂, CommRing, sum_below, multiple, Ring, ring_sum, ring_power, Trace, HasCharacteristic}
use Rattle.algebra.proofs.SumLaws as sums
use Rattle.algebra.proofs.RingLaws as commutative
use Rattle.power_theory.proofs.RingSums.{nought_add, add_nought, mul_nought, nought_mul, any_ring_rules, sum_zero, sum_suc, mul_sum, sum_add, sum_nought, power_zero, power_first}

-- ---- polynomials
module _ {A : Type 0} (R : Ring A) where
  -- t f
  before : (ℕ → A) → ℕ → A
  before f zero = R.nought
  before f (suc k) = f k

  -- f + g
  plus : (ℕ → A) → (ℕ → A) → ℕ → A
  plus f g k = R.add (f k) (g k)

  -- c f
  front : A → (ℕ → A) → ℕ → A
  front c f k = R.mul c (f k)

  -- the derivative of f
  derivative : (ℕ → A) → ℕ → A
  derivative f k = ring_sum R (suc k) (λ i. f (suc k))

  module _ (a b : A) where
    -- (a t + b) f
    times_left : (ℕ → A) → ℕ → A
    times_left f k = R.add (R.mul a (before f k)) (R.mul b (f k))

    -- f (a t + b)
    times_right : (ℕ → A) → ℕ → A
    times_right f k = R.add (R.mul (before f k) a) (R.mul (f k) b)

    -- (a t + b)^n
    words : ℕ → ℕ → A
    words zero zero = R.one
    words zero (suc k) = R.nought
    words (suc n) k = times_left (words n) k

    -- f (a t + b)^i
    turned : ℕ → (ℕ → A) → ℕ → A
    turned zero f k = f k
    turned (suc i) f k = times_right (turned i f) k

module _ {A : Type 0} (R : Ring A) where
  before-zero : (f : ℕ → A) → before R f zero ≡ R.nought
  unfolding before
  before-zero f = refl

  before-suc : (f : ℕ → A) (k : ℕ) → before R f (suc k) ≡ f k
  unfolding before
  before-suc f k = refl

  before-plus : (f g : ℕ → A) (k : ℕ) → before R (plus R f g) k ≡ R.add (before R f k) (before R g k)
  unfolding before plus
  before-plus f g zero = sym (R.add_nought R.nought)
  before-plus f g (suc k) = refl

  before-front : (c : A) (f : ℕ → A) (k : ℕ) → before R (front R c f) k ≡ R.mul c (before R f k)
  unfolding before front
  before-front c f zero = sym (mul_nought R c)
  before-front c f (suc k) = refl

  before-derivative : (f : ℕ → A) (k : ℕ) → before R (derivative R f) k ≡ ring_sum R k (λ i. f k)
  unfolding before derivative
  before-derivative f zero = sym (sum_zero R (λ i. f 0))
  before-derivative f (suc k) = refl

  derivative-suc : (f : ℕ → A) (k : ℕ) → derivative R f k ≡ R.add (ring_sum R k (λ i. f (suc k))) (f (suc k))
  unfolding derivative
  derivative-suc f k = sum_suc R k (λ i. f (suc k))

  module _ (a b : A) where
    before-right : (f : ℕ → A) (k : ℕ) → before R (times_right R a b f) k
        ≡ R.add (R.mul (before R (before R f) k) a) (R.mul (before R f k) b)
    unfolding before times_right
    before-right f zero = sym (ap₂ R.add (nought_mul R a) (nought_mul R b) ∙ R.add_nought R.nought)
    before-right f (suc k) = refl

    before-left : (f : ℕ → A) (k : ℕ) → before R (times_left R a b f) k
        ≡ R.add (R.mul a (before R (before R f) k)) (R.mul b (before R f k))
    unfolding before times_left
    before-left f zero = sym (ap₂ R.add (mul_nought R a) (mul_nought R b) ∙ R.add_nought R.nought)
    before-left f (suc k) = refl

    left-at : (f : ℕ → A) (k : ℕ) → times_left R a b f k ≡ R.add (R.mul a (before R f k)) (R.mul b (f k))
    unfolding times_left
    left-at f k = refl

    right-at : (f : ℕ → A) (k : ℕ) → times_right R a b f k ≡ R.add (R.mul (before R f k) a) (R.mul (f k) b)
    unfolding times_right
    right-at f k = refl

    words-suc : (n : ℕ) → words R a b (suc n) ≡ times_left R a b (words R a b n)
    unfolding words
    words-suc n = refl

    words-zero-zero : words R a b 0 0 ≡ R.one
    unfolding words
    words-zero-zero = refl

    words-zero-suc : (k : ℕ) → words R a b 0 (suc k) ≡ R.nought
    unfolding words
    words-zero-suc k = refl

    turned-zero : (f : ℕ → A) → turned R a b 0 f ≡ f
    unfolding turned
    turned-zero f = refl

    turned-suc : (i : ℕ) (f : ℕ → A) → turned R a b (suc i) f ≡ times_right R a b (turned R a b i f)
    unfolding turned
    turned-suc i f = refl

    -- the factors on the two sides don't meet
    left-right : (f : ℕ → A) → times_left R a b (times_right R a b f) ≡ times_right R a b (times_left R a b f)
    left-right f = fun_ext (λ k.
        left-at (times_right R a b f) k
        ∙ ap₂ (λ u v. R.add (R.mul a u) (R.mul b v)) (before-right f k) (right-at f k)
        ∙ by (before R (before R f) k) (before R f k) (f k)
        ∙ sym (right-at (times_left R a b f) k ∙ ap₂ (λ u v. R.add (R.mul u a) (R.mul v b)) (before-left f k) (left-at f k)))
      where
        by : (u v w : A)
            → R.add (R.mul a (R.add (R.mul u a) (R.mul v b))) (R.mul b (R.add (R.mul v a) (R.mul w b)))
            ≡ R.add (R.mul (R.add (R.mul a u) (R.mul b v)) a) (R.mul (R.add (R.mul a v) (R.mul b w)) b)
        by u v w = simp (any_ring_rules, R)

    right-plus : (f g : ℕ → A) → times_right R a b (plus R f g) ≡ plus R (times_right R a b f) (times_right R a b g)
    unfolding times_right plus
    right-plus f g =
        fun_ext (λ k. ap (λ u. R.add (R.mul u a) (R.mul (R.add (f k) (g k)) b)) (before-plus f g k) ∙ by (before R f k) (before R g k) (f k) (g k))
      where
        by : (u v w x : A)
            → R.add (R.mul (R.add u v) a) (R.mul (R.add w x) b)
            ≡ R.add (R.add (R.mul u a) (R.mul w b)) (R.add (R.mul v a) (R.mul x b))
        by u v w x = simp (any_ring_rules, R)

    right-front : (c : A) (f : ℕ → A) → times_right R a b (front R c f) ≡ front R c (times_right R a b f)
    unfolding times_right front
    right-front c f =
        fun_ext (λ k. ap (λ u. R.add (R.mul u a) (R.mul (R.mul c (f k)) b)) (before-front c f k) ∙ by (before R f k) (f k))
      where
        by : (u v : A) → R.add (R.mul (R.mul c u) a) (R.mul (R.mul c v) b) ≡ R.mul c (R.add (R.mul u a) (R.mul v b))
        by u v = simp (any_ring_rules, R)

    right-nought : times_right R a b (λ k. R.nought) ≡ (λ k. R.nought)
    right-nought =
        fun_ext (λ k. right-at (λ k. R.nought) k ∙ ap (λ u. R.add (R.mul u a) (R.mul R.nought b)) (nothing k) ∙ simp (nought_mul, add_nought))
      where
        nothing : (k : ℕ) → before R (λ k. R.nought) k ≡ R.nought
        nothing zero = before-zero (λ k. R.nought)
        nothing (suc k) = before-suc (λ k. R.nought) k

    turned-plus : (i : ℕ) (f g : ℕ → A) → turned R a b i (plus R f g) ≡ plus R (turned R a b i f) (turned R a b i g)
    turned-plus zero f g = simp turned-zero
    turned-plus (suc i) f g = simp (turned-suc, turned-plus i f g, right-plus)

    turned-front : (i : ℕ) (c : A) (f : ℕ → A) → turned R a b i (front R c f) ≡ front R c (turned R a b i f)
    turned-front zero c f = simp turned-zero
    turned-front (suc i) c f = simp (turned-suc, turned-front i c f, right-front)

    turned-nought : (i : ℕ) → turned R a b i (λ k. R.nought) ≡ (λ k. R.nought)
    turned-nought zero = turned-zero (λ k. R.nought)
    turned-nought (suc i) = turned-suc i (λ k. R.nought) ∙ ap (times_right R a b) (turned-nought i) ∙ right-nought

    turned-left : (i : ℕ) (f : ℕ → A) → turned R a b i (times_left R a b f) ≡ times_left R a b (turned R a b i f)
    turned-left zero f = simp turned-zero
    turned-left (suc i) f = simp (turned-suc, turned-left i f, left-right)

    -- the powers of a t + b may be made from the right
    words-right : (n : ℕ) → words R a b (suc n) ≡ times_right R a b (words R a b n)
    words-right zero = words-suc 0 ∙ fun_ext (λ k. left-at (words R a b 0) k ∙ by k ∙ sym (right-at (words R a b 0) k))
      where
        by : (k : ℕ)
            → R.add (R.mul a (before R (words R a b 0) k)) (R.mul b (words R a b 0 k))
            ≡ R.add (R.mul (before R (words R a b 0) k) a) (R.mul (words R a b 0 k) b)
        by zero = simp (before-zero, words-zero-zero, any_ring_rules, R)
        by (suc zero) = simp (before-suc (words R a b 0) 0, words-zero-zero, words-zero-suc 0, any_ring_rules, R)
        by (suc (suc k)) = simp (before-suc (words R a b 0) (suc k), words-zero-suc k, words-zero-suc (suc k), any_ring_rules, R)
    words-right (suc n) =
        words-suc (suc n)
        ∙ ap (times_left R a b) (words-right n)
        ∙ left-right (words R a b n)
        ∙ sym (ap (times_right R a b) (words-suc n))

    turned-words : (i n t : ℕ) → n + i ≡ t → turned R a b i (words R a b n) ≡ words R a b t
    turned-words zero n t e = turned-zero (words R a b n) ∙ ap (words R a b) (omega arith)
    turned-words (suc i) n t e =
        turned-suc i (words R a b n)
        ∙ ap (times_right R a b) (turned-words i n (n + i) refl)
        ∙ sym (words-right (n + i))
        ∙ ap (words R a b) (omega arith)

    -- ((a t + b) f)' = a f + (a t + b) f'
    derivative-left : (f : ℕ → A) → derivative R (times_left R a b f) ≡ plus R (front R a f) (times_left R a b (derivative R f))
    unfolding plus front
    derivative-left f = fun_ext (λ k.
        derivative-suc (times_left R a b f) k
        ∙ ap₂ R.add (copies k (suc k) ∙ ap (λ u. R.add (R.mul a (ring_sum R k (λ i. u))) (R.mul b (ring_sum R k (λ i. f (suc k))))) (before-suc f k)) (next k)
        ∙ by (ring_sum R k (λ i. f k)) (ring_sum R k (λ i. f (suc k))) (f k) (f (suc k))
        ∙ sym (ap (R.add (R.mul a (f k))) (left-at (derivative R f) k ∙ ap₂ (λ u v. R.add (R.mul a u) (R.mul b v)) (before-derivative f k) (derivative-suc f k))))
      where
        next : (k : ℕ) → times_left R a b f (suc k) ≡ R.add (R.mul a (f k)) (R.mul b (f (suc k)))
        next k = left-at f (suc k) ∙ ap (λ u. R.add (R.mul a u) (R.mul b (f (suc k)))) (before-suc f k)

        copies : (n k : ℕ) → ring_sum R n (λ i. times_left R a b f k)
            ≡ R.add (R.mul a (ring_sum R n (λ i. before R f k))) (R.mul b (ring_sum R n (λ i. f k)))
        copies n k =
            ap (λ x. ring_sum R n (λ i. x)) (left-at f k)
            ∙ sum_add R n (λ i. R.mul a (before R f k)) (λ i. R.mul b (f k))
            ∙ sym (ap₂ R.add (mul_sum R n a (λ i. before R f k)) (mul_sum R n b (λ i. f k)))

        by : (u v x y : A)
            → R.add (R.add (R.mul a u) (R.mul b v)) (R.add (R.mul a x) (R.mul b y))
            ≡ R.add (R.mul a x) (R.add (R.mul a u) (R.mul b (R.add v y)))
        by u v x y = simp (any_ring_rules, R)

-- ---- the sum of the coefficients
module _ {A : Type 0} (R : Ring A) (a b : A) where
  words-at : (n k : ℕ) → words R a b (suc n) k ≡ R.add (R.mul a (before R (words R a b n) k)) (R.mul b (words R a b n k))
  words-at n k = ap (λ f. f k) (words-suc R a b n) ∙ left-at R a b (words R a b n) k

  -- no word of n letters has more than n letters a
  words-over : (n k : ℕ) → n < k → words R a b n k ≡ R.nought
  words-over n zero over = absurd (omega arith)
  words-over zero (suc k) over = words-zero-suc R a b k
  words-over (suc n) (suc k) over =
      simp (words-at, before-suc, words-over n k (omega arith), words-over n (suc k) (omega arith), mul_nought, add_nought)

  -- one word has the letter b alone, and one the letter a
  words-none : (n : ℕ) → words R a b n 0 ≡ ring_power R b n
  words-none zero = words-zero-zero R a b ∙ sym (power_zero R b)
  words-none (suc n) = simp (words-at, before-zero, words-none n, mul_nought, nought_add, power_first)

  words-all : (n : ℕ) → words R a b n n ≡ ring_power R a n
  words-all zero = words-zero-zero R a b ∙ sym (power_zero R a)
  words-all (suc n) = simp (words-at, before-suc, words-all n, words-over n (suc n) (omega arith), mul_nought, add_nought, power_first)

  sum-before : (n : ℕ) (f : ℕ → A) → ring_sum R (suc n) (before R f) ≡ ring_sum R n f
  sum-before zero f = simp (sum_suc R 0 (before R f), sum_zero, before-zero, add_nought)
  sum-before (suc n) f =
      sum_suc R (suc n) (before R f) ∙ ap₂ R.add (sum-before n f) (before-suc R f n) ∙ sym (sum_suc R n f)

  -- (a + b)^n is the sum of all words of n letters
  power_of_sum : (n : ℕ) → ring_power R (R.add a b) n ≡ ring_sum R (suc n) (words R a b n)
  power_of_sum zero =
      power_zero R (R.add a b)
      ∙ sym (sum_suc R 0 (words R a b 0) ∙ ap₂ R.add (sum_zero R (words R a b 0)) (words-zero-zero R a b) ∙ nought_add R R.one)
  power_of_sum (suc n) =
      let whole : A = ring_sum R (suc n) (words R a b n) in
      let longer : ring_sum R (suc (suc n)) (words R a b n) ≡ whole =
      sum_suc R (suc n) (words R a b n) ∙ ap (R.add whole) (words-over n (suc n) (omega arith)) ∙ R.add_nought whole in
      power_first R (R.add a b) n
      ∙ ap (R.mul (R.add a b)) (power_of_sum n)
      ∙ R.add_mul a b whole
      ∙ sym
      (ap (ring_sum R (suc (suc n))) (fun_ext (words-at n))
      ∙ sum_add R (suc (suc n)) (λ k. R.mul a (before R (words R a b n) k)) (λ k. R.mul b (words R a b n k))
      ∙ sym (ap₂ R.add (mul_sum R (suc (suc n)) a (before R (words R a b n))) (mul_sum R (suc (suc n)) b (words R a b n)))
      ∙ ap₂ (λ u v. R.add (R.mul a u) (R.mul b v)) (sum-before (suc n) (words R a b n)) longer)

-- ---- under a trace
module _ {A B : Type 0} (R : Ring A) (S : CommRing B) (t : Trace R S) where
  trace_nought : t.trace R.nought ≡ S.nought
  trace_nought =
      commutative.add_fixed S (t.trace R.nought) (t.trace R.nought) (sym (t.of_add R.nought R.nought) ∙ ap t.trace (R.add_nought R.nought))

  trace_sum : (n : ℕ) (f : ℕ → A) → t.trace (ring_sum R n f) ≡ sum_below S n (λ i. t.trace (f i))
  trace_sum zero f = ap t.trace (sum_zero R f) ∙ trace_nought ∙ sym (sums.sum_zero S (λ i. t.trace (f i)))
  trace_sum (suc n) f = simp (sum_suc, t.of_add, trace_sum n f, sums.sum_suc)

  module _ (a b : A) where
    -- a factor a t + b may go from one side to the other
    trace_turns : (f : ℕ → A) (k : ℕ) → t.trace (times_left R a b f k) ≡ t.trace (times_right R a b f k)
    trace_turns f k = simp (left-at, right-at, t.of_add, t.of_mul a (before R f k), t.of_mul b (f k))

    -- the derivative of (a t + b)^n, with i more factors behind it, is n times a (a t + b)^(n + i - 1)
    trace_derivative : (n i m k : ℕ) → n + i ≡ suc m
        → t.trace (turned R a b i (derivative R (words R a b n)) k) ≡ multiple S n (t.trace (R.mul a (words R a b m k)))
    unfolding plus front
    trace_derivative zero i m k e =
        ap (λ f. t.trace (turned R a b i f k)) (fun_ext none)
        ∙ ap (λ f. t.trace (f k)) (turned-nought R a b i)
        ∙ trace_nought
        ∙ sym (sums.multiple_zero S (t.trace (R.mul a (words R a b m k))))
      where
        none : (k : ℕ) → derivative R (words R a b 0) k ≡ R.nought
        none k = simp (derivative-suc, words-zero-suc, sum_nought, add_nought)
    trace_derivative (suc n) i m k e =
        let rest : ℕ → A = derivative R (words R a b n) in
        let each : B = t.trace (R.mul a (words R a b m k)) in
        ap (λ f. t.trace (turned R a b i (derivative R f) k)) (words-suc R a b n)
        ∙ ap (λ f. t.trace (turned R a b i f k)) (derivative-left R a b (words R a b n))
        ∙ ap (λ f. t.trace (f k)) (turned-plus R a b i (front R a (words R a b n)) (times_left R a b rest))
        ∙ t.of_add (turned R a b i (front R a (words R a b n)) k) (turned R a b i (times_left R a b rest) k)
        ∙ ap₂ S.add
        (ap (λ f. t.trace (f k)) (turned-front R a b i a (words R a b n)) ∙ ap (λ f. t.trace (R.mul a (f k))) (turned-words R a b i n m (omega arith)))
        (ap (λ f. t.trace (f k)) (turned-left R a b i rest)
        ∙ trace_turns (turned R a b i rest) k
        ∙ ap (λ f. t.trace (f k)) (sym (turned-suc R a b i rest))
        ∙ trace_derivative n (suc i) m k (omega arith))
        ∙ S.add_comm each (multiple S n each)
        ∙ sym (sums.multiple_suc S n each)

    module _ (q : ℕ) (characteristic : HasCharacteristic S q) where
      -- in characteristic q the traces of the words of both letters vanish
      trace_mixed : (k : ℕ) → 0 < k → k < q → t.trace (words R a b q k) ≡ S.nought
      unfolding derivative
      trace_mixed zero from below = absurd (omega arith)
      trace_mixed (suc k) from below =
          characteristic.cancels (suc k) (t.trace (words R a b q (suc k))) from below
          (sym (sums.sum_constant S (suc k) (t.trace (words R a b q (suc k))))
          ∙ sym (trace_sum (suc k) (λ i. words R a b q (suc k)))
          ∙ ap (λ f. t.trace (f k)) (sym (turned-zero R a b (derivative R (words R a b q))))
          ∙ trace_derivative q 0 (q - 1) k (omega arith)
          ∙ characteristic.vanishes (t.trace (R.mul a (words R a b (q - 1) k))))

      -- tr((a + b)^q) = tr(a^q) + tr(b^q)
      pub trace_power_of_sum : 0 < q → t.trace (ring_power R (R.add a b) q)
          ≡ S.add (t.trace (ring_power R a q)) (t.trace (ring_power R b q))
      trace_power_of_sum positive =
          ap t.trace (power_of_sum R a b q)
          ∙ trace_sum (suc q) (words R a b q)
          ∙ sums.sum_suc S q (λ k. t.trace (words R a b q k))
          ∙ ap₂ S.add (ends q (λ k. t.trace (words R a b q k)) positive trace_mixed ∙ ap t.trace (words-none R a b q)) (ap t.trace (words-all R a b q))
          ∙ S.add_comm (t.trace (ring_power R b q)) (t.trace (ring_power R a q))
        where
          ends : (n : ℕ) (g : ℕ → B) → 0 < n → ((k : ℕ) → 0 < k → k < n → g k ≡ S.nought) → sum_below S n g ≡ g 0
          ends zero g positive none = absurd (omega arith)
          ends (suc n) g positive none =
              sums.sum_first S n g
              ∙ ap (S.add (g 0)) (sums.sum_ext S n (λ i. g (suc i)) (λ i. S.nought) (λ i below. none (suc i) (omega arith) (omega arith)) ∙ sums.sum_nought S n)
              ∙ S.add_nought (g 0)
