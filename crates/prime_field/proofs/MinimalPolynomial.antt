-- The last of the kept rows for the equations of a matrix's powers is the matrix's minimal polynomial.
use Rattle.prime_field.proofs.Names.{◌≡◌, inl, inr, ℕ, zero, suc, ◌+◌, ◌-◌, ◌*◌, ◌/◌, ◌%◌, ◌<◌, ◌≤◌, List, [], ◌∷◌, ◌++◌, length, get_or, length-append, refl, sym, ◌∙◌, ap, add-zero, zero-add, arith, mod-mul-add, div-mul-add, row_below, column_below, place_below, get_or_push, nat_eq, nat_lt, cases_lt, lt-ltb, le-ltb, ap₂, fun_ext, CommRing, sum_below, pick, mul_nought, nought_mul, sum_zero, sum_ext, sum_nought, sum_first, sum_split, sum_reindex, pick_of, pick_off, Field, dot, Solves, matrix_power, matrix_polynomial, IsAnnihilator, IsMinimal, horner, act, IsFree, IsGone, IsSolved, power_equations, move_none, horner_nil, horner_cons, horner_move, monic_is, dot_is, columns, IsNoughtBelow, nought_stable, units, length_units, units_reach, killed}

module _ {A : Type 0} (R : CommRing A) where
  pub power_at_zero : (w : ℕ) (a : ℕ → ℕ → A) (i j : ℕ) → matrix_power R w a zero i j ≡ pick R (nat_eq i j) R.one
  unfolding matrix_power
  power_at_zero w a i j = refl

  pub power_at_suc : (w : ℕ) (a : ℕ → ℕ → A) (k i j : ℕ) → matrix_power R w a (suc k) i j ≡ dot R w (a i) (λ l. matrix_power R w a k l j)
  unfolding matrix_power
  power_at_suc w a k i j = refl

  pub matrix_polynomial_is : (w : ℕ) (a : ℕ → ℕ → A) (n : ℕ) (f : ℕ → A) (i j : ℕ) → matrix_polynomial R w a n f i j ≡ sum_below R n (λ k. R.mul (f k) (matrix_power R w a k i j))
  unfolding matrix_polynomial
  matrix_polynomial_is w a n f i j = refl

  -- the polynomial at a on the j-th column of a power of a
  act_powers : (w : ℕ) (a : ℕ → ℕ → A) (f : List A) (s j i : ℕ)
      → act (columns R w a) f (λ l. matrix_power R w a s l j) i ≡ sum_below R (length f) (λ k. R.mul (get_or f k R.nought) (matrix_power R w a (s + k) i j))
  act_powers w a [] s j i =
      ap (λ v. v i) (horner_nil (columns R w a) (λ l. matrix_power R w a s l j) (λ l. R.nought)) ∙ sym (sum_zero R (λ k. R.mul (get_or [] k R.nought) (matrix_power R w a (s + k) i j)))
  act_powers w a (c ∷ f) s j i =
      let T = columns R w a in
      let v : ℕ → A = λ l. matrix_power R w a s l j in
      let next : ℕ → A = λ l. matrix_power R w a (suc s) l j in
      let moved : T.map v ≡ next = fun_ext (λ l. sym (power_at_suc w a s l j)) in
      let rest : T.map (act T f v) i ≡ sum_below R (length f) (λ k. R.mul (get_or f k R.nought) (matrix_power R w a (suc s + k) i j)) =
      ap (λ u. u i) (sym (horner_move T f v T.nought) ∙ ap₂ (horner T f) moved (move_none T)) ∙ act_powers w a f (suc s) j i in
      ap (λ u. u i) (horner_cons T c f v T.nought)
      ∙ ap₂ R.add (ap (λ k. R.mul c (matrix_power R w a k i j)) (sym (add-zero s))) rest
      ∙ ap (R.add (R.mul c (matrix_power R w a (s + 0) i j)))
      (sum_ext R (length f) (λ k. R.mul (get_or f k R.nought) (matrix_power R w a (suc s + k) i j)) (λ k. R.mul (get_or f k R.nought) (matrix_power R w a (s + suc k) i j))
      (λ k h. let e : suc s + k ≡ s + suc k = omega arith in ap (λ z. R.mul (get_or f k R.nought) (matrix_power R w a z i j)) e))
      ∙ sym (sum_first R (length f) (λ k. R.mul (get_or (c ∷ f) k R.nought) (matrix_power R w a (s + k) i j)))

  -- some monic polynomial of degree w is nought at a
  record HasMonic (w : ℕ) (a : ℕ → ℕ → A) : Type 0 where
    coefficients : ℕ → A
    leading : coefficients w ≡ R.one
    annihilates : IsAnnihilator R w a (w + 1) coefficients

  monic_annihilator : Field R → (w : ℕ) (a : ℕ → ℕ → A) → HasMonic w a
  monic_annihilator F w a =
      let k = killed F (columns R w a) (IsNoughtBelow R w) (nought_stable R w a) (units R w) (λ v. units_reach R w a w v (λ i h l. absurd (omega arith))) in
      let f : List A = k.lower in
      let size : length f ≡ w = k.degree ∙ length_units R w in
      let whole : length (f ++ R.one ∷ []) ≡ w + 1 = omega (arith, length-append f (R.one ∷ [])) in
      record {
        coefficients = λ i. get_or (f ++ R.one ∷ []) i R.nought;
        leading = get_or_push f R.one R.nought w size;
        annihilates = λ i j h l.
            matrix_polynomial_is w a (w + 1) (λ n. get_or (f ++ R.one ∷ []) n R.nought) i j
            ∙ rw (← whole) (sym (simp zero-add at (act_powers w a (f ++ R.one ∷ []) 0 j i)))
            ∙ ap (λ v. v i) (monic_is (columns R w a) f (λ m. matrix_power R w a 0 m j))
            ∙ k.kills (λ m. matrix_power R w a 0 m j) i h;
      }

  -- noughts at the end of the coefficients change nothing
  polynomial_cut : (w : ℕ) (a : ℕ → ℕ → A) (n m : ℕ) (f g : ℕ → A) (i j : ℕ) → n ≤ m → ((k : ℕ) → k < n → g k ≡ f k) → ((k : ℕ) → n ≤ k → k < m → g k ≡ R.nought)
      → matrix_polynomial R w a m g i j ≡ matrix_polynomial R w a n f i j
  polynomial_cut w a n m f g i j less same over =
      let whole : n + (m - n) ≡ m = omega arith in
      rw (matrix_polynomial_is w a m g i j, matrix_polynomial_is w a n f i j, ← whole)
      (sum_split R n (m - n) _
      ∙ ap₂ R.add (sum_ext R n _ _ (λ k h. ap (λ z. R.mul z (matrix_power R w a k i j)) (same k h)))
      (sum_ext R (m - n) _ (λ k. R.nought) (λ k h. ap (λ z. R.mul z (matrix_power R w a (n + k) i j)) (over (n + k) (omega arith) (omega arith)) ∙ nought_mul R _) ∙ sum_nought R (m - n))
      ∙ R.add_nought _)

  -- columns of the numbers of polynomials of degree at most r, the last number first
  module _ (r : ℕ) (a : ℕ → ℕ → A) where
    equation_is : (k : ℕ) (v : ℕ → A) → dot R (r + 1) (power_equations R r a k) v ≡ matrix_polynomial R r a (r + 1) (λ t. v (r - t)) (k % r) (k / r)
    equation_is k v =
        dot_is R (r + 1) (power_equations R r a k) v
        ∙ sym (sum_reindex R (r + 1) (λ t. r - t) (λ t. r - t) (λ t q. omega arith) (λ t q. omega arith) (λ t q. omega arith) (λ t q. omega arith)
        (λ t. R.mul (power_equations R r a k t) (v t)))
        ∙ sum_ext R (r + 1) _ (λ t. R.mul (v (r - t)) (matrix_power R r a t (k % r) (k / r)))
        (λ t q. let s : r - (r - t) ≡ t = omega arith in rw s (R.mul_comm _ _))
        ∙ sym (matrix_polynomial_is r a (r + 1) (λ t. v (r - t)) (k % r) (k / r))

    solution_annihilates : (v : ℕ → A) → Solves R (r * r) (r + 1) (power_equations R r a) v → IsAnnihilator R r a (r + 1) (λ k. v (r - k))
    solution_annihilates v sv i j h l =
        ap₂ (matrix_polynomial R r a (r + 1) (λ k. v (r - k))) (sym (mod-mul-add j r i h)) (sym (div-mul-add j r i h))
        ∙ sym (equation_is (j * r + i) v) ∙ sv (j * r + i) (place_below r j i l h)

    -- the column of the m numbers g, with noughts for the numbers after them
    padded : ℕ → (ℕ → A) → ℕ → A
    padded m g t = pick R (nat_lt (r - t) m) (g (r - t))

    padded_at : (m : ℕ) (g : ℕ → A) (k : ℕ) → k < m → k ≤ r → padded m g (r - k) ≡ g k
    unfolding padded
    padded_at m g k less small = let s : r - (r - k) ≡ k = omega arith in rw s (pick_of R (nat_lt k m) (g k) (lt-ltb k m less))

    padded_off : (m : ℕ) (g : ℕ → A) (t : ℕ) → m ≤ r - t → padded m g t ≡ R.nought
    unfolding padded
    padded_off m g t over = pick_off R (nat_lt (r - t) m) (g (r - t)) (le-ltb (r - t) m over)

    padded_solves : (m : ℕ) (g : ℕ → A) → m ≤ r + 1 → IsAnnihilator R r a m g → Solves R (r * r) (r + 1) (power_equations R r a) (padded m g)
    padded_solves m g less zero_at k h =
        equation_is k (padded m g)
        ∙ polynomial_cut r a m (r + 1) g (λ n. padded m g (r - n)) (k % r) (k / r) less
        (λ n q. padded_at m g n q (omega arith)) (λ n q t. padded_off m g (r - n) (omega arith))
        ∙ zero_at (k % r) (k / r) (column_below r k h) (row_below r k h)

    module _ (p : ℕ → ℕ → A) (solved : IsSolved R (r * r) (r + 1) (power_equations R r a) p) where
      -- a solution is nought at a place at which each row or its number in the solution is
      solution_nought : (v : ℕ → A) → Solves R (r * r) (r + 1) (power_equations R r a) v → (t : ℕ) → t < r + 1
          → ((f : ℕ) → f < r + 1 → R.mul (v f) (p f t) ≡ R.nought) → v t ≡ R.nought
      solution_nought v sv t h nothing = sym (solved.complete v sv t h) ∙ sum_ext R (r + 1) _ (λ f. R.nought) nothing ∙ sum_nought R (r + 1)

      -- not every row is gone
      pub some_row : Field R → ((f : ℕ) → f < r + 1 → IsGone R (r + 1) p f) → ⊥
      some_row F gone =
          let monic = monic_annihilator F r a in
          F.one_is_not_nought
          (sym monic.leading ∙ sym (padded_at (r + 1) monic.coefficients r (omega arith) (omega arith))
          ∙ solution_nought (padded (r + 1) monic.coefficients) (padded_solves (r + 1) monic.coefficients (omega arith) monic.annihilates) (r - r) (omega arith)
          (λ f h. ap (R.mul _) (gone f h (r - r) (omega arith)) ∙ mul_nought R _))

      -- the last row, from its last place down to its first, is the minimal polynomial
      pub last_is_minimal : (f n : ℕ) (c : ℕ → A) → f < r + 1 → IsFree R (r + 1) p f → ((g : ℕ) → g < r + 1 → f < g → IsGone R (r + 1) p g)
          → n ≡ r + 1 - f → ((k : ℕ) → k < n → c k ≡ p f (r - k)) → IsMinimal R r a n c
      last_is_minimal f n c below free later size each = record {
        some = omega arith;
        monic = each (n - 1) (omega arith) ∙ (let s : r - (n - 1) ≡ f = omega arith in ap (p f) s ∙ free.one);
        annihilates = λ i j h l.
            sym (polynomial_cut r a n (r + 1) c (λ k. p f (r - k)) i j (omega arith) (λ k q. sym (each k q)) (λ k q t. free.before (r - k) (omega arith)))
            ∙ solution_annihilates (p f) (solved.solves f below) i j h l;
        least = λ m g less zero_at k h.
            sym (padded_at m g k h (omega arith))
            ∙ solution_nought (padded m g) (padded_solves m g (omega arith) zero_at) (r - k) (omega arith) (λ t q. elim (cases_lt f t) [
              | inl after ↦ ap (R.mul _) (later t q after (r - k) (omega arith)) ∙ mul_nought R _
              | inr before ↦ ap (λ z. R.mul z (p t (r - k))) (padded_off m g t (omega arith)) ∙ nought_mul R (p t (r - k))
            ]);
      }
