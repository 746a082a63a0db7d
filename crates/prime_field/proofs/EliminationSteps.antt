-- Solving linear equations over a field one after another: what is kept is, for each place, the column of the basis that begins
-- there, or noughts where none does.
use Rattle.prime_field.proofs.Names.{◌≡◌, ◌≢◌, ◌⊎◌, inl, inr, ℕ, suc, ◌<◌, refl, sym, ◌∙◌, ap, arith, nat_eq, cases_eq, cases_lt, eq-eqb, ne_eqb, ap₂, CommRing, sum_below, pick, ring_rules, mul_nought, one_mul, product_rules, sum_ext, sum_nought, sum_add, sum_neg, mul_sum, sum_mul, sum_exchange, sum_pick, pick_of, pick_off, mul_pick, dot, Solves, dot_is, IsFree, IsGone, IsSolved}

module _ {A : Type 0} (R : CommRing A) where
  pub dot_ext : (w : ℕ) (x y u v : ℕ → A) → ((j : ℕ) → j < w → x j ≡ u j) → ((j : ℕ) → j < w → y j ≡ v j) → dot R w x y ≡ dot R w u v
  dot_ext w x y u v h k =
      dot_is R w x y ∙ sum_ext R w (λ j. R.mul (x j) (y j)) (λ j. R.mul (u j) (v j)) (λ j p. ap (λ z. R.mul z (y j)) (h j p) ∙ ap (R.mul (u j)) (k j p)) ∙ sym (dot_is R w u v)

  -- x . (y - c z) = x . y - c (x . z)
  pub dot_reduced : (w : ℕ) (x y z : ℕ → A) (c : A) → dot R w x (λ j. R.add (y j) (R.neg (R.mul c (z j)))) ≡ R.add (dot R w x y) (R.neg (R.mul c (dot R w x z)))
  dot_reduced w x y z c =
      dot_is R w x _
      ∙ sum_ext R w _ (λ j. R.add (R.mul (x j) (y j)) (R.neg (R.mul c (R.mul (x j) (z j))))) (λ j p. simp (ring_rules, R))
      ∙ simp (sum_add, sum_neg, mul_sum, dot_is)

  -- the rows of the identity solve no equation
  pub nothing_solved : (w : ℕ) (e p : ℕ → ℕ → A) → ((i j : ℕ) → i < w → j < w → p i j ≡ pick R (nat_eq i j) R.one) → IsSolved R 0 w e p
  nothing_solved w e p unit = record {
    solves = λ f h i k. absurd (omega arith);
    complete = λ v sv m h.
        sum_ext R w (λ f. R.mul (v f) (p f m)) (λ f. pick R (nat_eq f m) (v f))
        (λ f k. ap (R.mul (v f)) (unit f m k h) ∙ mul_pick R (nat_eq f m) (v f) R.one ∙ ap (pick R (nat_eq f m)) (R.mul_one (v f)))
        ∙ sum_pick R w m v h;
    reduced = λ f h. inl (record {
      one = unit f f h h ∙ pick_of R (nat_eq f f) R.one (eq-eqb f f refl);
      before = λ m k. unit f m h (omega arith) ∙ pick_off R (nat_eq f m) R.one (ne_eqb f m (λ q. omega arith));
      others = λ l k d. unit l f k h ∙ pick_off R (nat_eq l f) R.one (ne_eqb l f d);
    });
  }

  -- one more equation: the last row that doesn't solve it goes, and the others are reduced by it
  pub record IsReducedBy (w : ℕ) (x : ℕ → A) (p : ℕ → ℕ → A) (next : ℕ → ℕ → A) (j : ℕ) (c : A) : Type 0 where
    pub below : j < w
    pub inverse : R.mul c (dot R w x (p j)) ≡ R.one
    pub last : (f : ℕ) → f < w → j < f → dot R w x (p f) ≡ R.nought
    pub each : (f m : ℕ) → f < w → m < w → next f m ≡ R.add (p f m) (R.neg (R.mul (R.mul (dot R w x (p f)) c) (p j m)))

  module _ (n w : ℕ) (e p next : ℕ → ℕ → A) (j : ℕ) (c : A) (solved : IsSolved R n w e p) (by : IsReducedBy w (e n) p next j c) where
    difference : (y : ℕ → A) (f : ℕ) → f < w → dot R w y (next f) ≡ R.add (dot R w y (p f)) (R.neg (R.mul (R.mul (dot R w (e n) (p f)) c) (dot R w y (p j))))
    difference y f h =
        dot_ext w y (next f) y (λ m. R.add (p f m) (R.neg (R.mul (R.mul (dot R w (e n) (p f)) c) (p j m)))) (λ m k. refl) (λ m k. by.each f m h k)
        ∙ dot_reduced w y (p f) (p j) (R.mul (dot R w (e n) (p f)) c)

    next_solves : (f : ℕ) → f < w → Solves R (suc n) w e (next f)
    next_solves f h i k = elim (cases_eq i n) [
      | inl same ↦ rw same (difference (e n) f h ∙ own (dot R w (e n) (p f)) (dot R w (e n) (p j)) by.inverse)
      | inr other ↦
          let i_below : i < n = omega arith in
          difference (e i) f h ∙ ap₂ (λ x y. R.add x (R.neg (R.mul (R.mul (dot R w (e n) (p f)) c) y))) (solved.solves f h i i_below) (solved.solves j by.below i i_below)
          ∙ simp (ring_rules, R)
    ]
      where
        own : (x y : A) → R.mul c y ≡ R.one → R.add x (R.neg (R.mul (R.mul x c) y)) ≡ R.nought
        own x y q = ap (λ z. R.add x (R.neg z)) (R.mul_assoc x c y ∙ ap (R.mul x) q ∙ R.mul_one x) ∙ R.add_neg x

    -- the numbers d with which the rows fail add up to that of their combination
    expanded : (v : ℕ → A) → Solves R (suc n) w e v → sum_below R w (λ f. R.mul (v f) (dot R w (e n) (p f))) ≡ R.nought
    expanded v sv =
        sum_ext R w (λ f. R.mul (v f) (dot R w (e n) (p f))) (λ f. sum_below R w (λ m. R.mul (e n m) (R.mul (v f) (p f m))))
        (λ f h. ap (R.mul (v f)) (dot_is R w (e n) (p f)) ∙ mul_sum R w (v f) (λ m. R.mul (e n m) (p f m)) ∙ sum_ext R w (λ m. R.mul (v f) (R.mul (e n m) (p f m))) (λ m. R.mul (e n m) (R.mul (v f) (p f m))) (λ m k. simp (product_rules, R)))
        ∙ sum_exchange R w w (λ f m. R.mul (e n m) (R.mul (v f) (p f m)))
        ∙ sum_ext R w (λ m. sum_below R w (λ f. R.mul (e n m) (R.mul (v f) (p f m)))) (λ m. R.mul (e n m) (v m))
        (λ m h. sym (mul_sum R w (e n m) (λ f. R.mul (v f) (p f m))) ∙ ap (R.mul (e n m)) (solved.complete v (λ i k. sv i (omega arith)) m h))
        ∙ sym (dot_is R w (e n) v)
        ∙ sv n (omega arith)

    next_complete : (v : ℕ → A) → Solves R (suc n) w e v → (m : ℕ) → m < w → sum_below R w (λ f. R.mul (v f) (next f m)) ≡ v m
    next_complete v sv m h =
        sum_ext R w (λ f. R.mul (v f) (next f m)) (λ f. R.add (R.mul (v f) (p f m)) (R.neg (R.mul (R.mul (v f) (dot R w (e n) (p f))) (R.mul c (p j m)))))
        (λ f k. ap (R.mul (v f)) (by.each f m k h) ∙ simp (ring_rules, R))
        ∙ sum_add R w (λ f. R.mul (v f) (p f m)) (λ f. R.neg (R.mul (R.mul (v f) (dot R w (e n) (p f))) (R.mul c (p j m))))
        ∙ ap₂ R.add (solved.complete v (λ i k. sv i (omega arith)) m h)
        (sum_neg R w (λ f. R.mul (R.mul (v f) (dot R w (e n) (p f))) (R.mul c (p j m)))
        ∙ ap R.neg (sym (sum_mul R w (λ f. R.mul (v f) (dot R w (e n) (p f))) (R.mul c (p j m))) ∙ ap (λ z. R.mul z (R.mul c (p j m))) (expanded v sv)))
        ∙ simp (ring_rules, R)

    -- what is taken off a row at a place where the row of j has nought is nought
    off : (f m : ℕ) → f < w → m < w → p j m ≡ R.nought → next f m ≡ p f m
    off f m h k q = by.each f m h k ∙ ap (λ z. R.add (p f m) (R.neg (R.mul (R.mul (dot R w (e n) (p f)) c) z))) q ∙ simp (ring_rules, R)

    -- a row that solves the equation stays
    stays : (f m : ℕ) → f < w → m < w → dot R w (e n) (p f) ≡ R.nought → next f m ≡ p f m
    stays f m h k q = by.each f m h k ∙ ap (λ z. R.add (p f m) (R.neg (R.mul (R.mul z c) (p j m)))) q ∙ simp (ring_rules, R)

    own_goes : IsGone R w next j
    own_goes m h =
        by.each j m by.below h ∙ ap (λ z. R.add (p j m) (R.neg (R.mul z (p j m)))) (R.mul_comm (dot R w (e n) (p j)) c ∙ by.inverse)
        ∙ simp (one_mul, R.add_neg)

    next_before : (f : ℕ) → f < w → f ≢ j → IsFree R w p f → (m : ℕ) → m < f → next f m ≡ R.nought
    next_before f h other free m k = elim (cases_lt j f) [
      | inl later ↦ stays f m h (omega arith) (by.last f h later) ∙ free.before m k
      | inr earlier ↦ off f m h (omega arith) (zero_there (omega arith) (solved.reduced j by.below)) ∙ free.before m k
    ]
      where
        zero_there : m < j → IsFree R w p j ⊎ IsGone R w p j → p j m ≡ R.nought
        zero_there less (inl own) = own.before m less
        zero_there less (inr gone) = gone m (omega arith)

    next_reduced : (f : ℕ) → f < w → IsFree R w next f ⊎ IsGone R w next f
    next_reduced f h = elim (cases_eq f j) [
      | inl same ↦ inr (rw same own_goes)
      | inr other ↦ by_row other (solved.reduced f h)
    ]
      where
        by_row : f ≢ j → IsFree R w p f ⊎ IsGone R w p f → IsFree R w next f ⊎ IsGone R w next f
        by_row other (inl free) =
            let there : p j f ≡ R.nought = free.others j by.below (λ q. other (sym q)) in
            inl (record {
              one = off f f h h there ∙ free.one;
              before = next_before f h other free;
              others = λ l k d. off l f k h there ∙ free.others l k d;
            })
        by_row other (inr gone) =
            let nothing : dot R w (e n) (p f) ≡ R.nought =
            dot_is R w (e n) (p f) ∙ sum_ext R w (λ m. R.mul (e n m) (p f m)) (λ m. R.nought) (λ m k. ap (R.mul (e n m)) (gone m k) ∙ mul_nought R (e n m)) ∙ sum_nought R w in
            inr (λ m k. stays f m h k nothing ∙ gone m k)

    pub one_more : IsSolved R (suc n) w e next
    one_more = record { solves = next_solves; complete = next_complete; reduced = next_reduced }

  -- one more equation that every row solves
  pub none_more : (n w : ℕ) (e p : ℕ → ℕ → A) → IsSolved R n w e p → ((f : ℕ) → f < w → dot R w (e n) (p f) ≡ R.nought) → IsSolved R (suc n) w e p
  none_more n w e p solved holds = record {
    solves = λ f h i k. elim (cases_eq i n) [
      | inl same ↦ rw same (holds f h)
      | inr other ↦ solved.solves f h i (omega arith)
    ];
    complete = λ v sv m h. solved.complete v (λ i k. sv i (omega arith)) m h;
    reduced = solved.reduced;
  }
