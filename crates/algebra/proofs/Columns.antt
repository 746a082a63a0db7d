-- Sequences of elements of a commutative ring as a module with a linear map, among them columns with "times a".
use Rattle.algebra.proofs.Names.{◌≡◌, inl, inr, ℕ, zero, suc, ◌<◌, ◌≤◌, List, [], ◌∷◌, length, refl, sym, ◌∙◌, ap, arith, nat_eq, cases_eq, eq-eqb, ne_eqb, ap₂, fun_ext, CommRing, sum_below, pick, dot, LinearMap, IsStable, Reaches}
use Rattle.algebra.proofs.RingLaws.{mul_nought, nought_mul, one_mul, add_mul, mul_left_comm}
use Rattle.algebra.proofs.SumLaws.{sum_ext, sum_nought, sum_add, mul_sum, pick_of, pick_off}

-- sequences of elements, with a linear map of them
abbrev pub sequences : {A : Type 0} (R : CommRing A) (move : (ℕ → A) → ℕ → A)
    → ((u v : ℕ → A) (i : ℕ) → move (λ j. R.add (u j) (v j)) i ≡ R.add (move u i) (move v i))
    → ((c : A) (v : ℕ → A) (i : ℕ) → move (λ j. R.mul c (v j)) i ≡ R.mul c (move v i)) → LinearMap R (ℕ → A)
sequences R move respects_sums respects_multiples = record {
  add = λ u v i. R.add (u i) (v i);
  nought = λ i. R.nought;
  scale = λ c v i. R.mul c (v i);
  map = move;
  add_assoc = λ u v x. fun_ext (λ i. R.add_assoc (u i) (v i) (x i));
  add_comm = λ u v. fun_ext (λ i. R.add_comm (u i) (v i));
  add_nought = λ v. fun_ext (λ i. R.add_nought (v i));
  scale_add = λ c u v. fun_ext (λ i. R.mul_add c (u i) (v i));
  scale_sum = λ c d v. fun_ext (λ i. add_mul R c d (v i));
  scale_product = λ c d v. fun_ext (λ i. R.mul_assoc c d (v i));
  scale_one = λ v. fun_ext (λ i. one_mul R (v i));
  scale_zero = λ v. fun_ext (λ i. nought_mul R (v i));
  map_add = λ u v. fun_ext (respects_sums u v);
  map_scale = λ c v. fun_ext (respects_multiples c v);
}

module _ {A : Type 0} (R : CommRing A) where
  pub dot_is : (w : ℕ) (x y : ℕ → A) → dot R w x y ≡ sum_below R w (λ j. R.mul (x j) (y j))
  unfolding dot
  dot_is w x y = refl

  pub dot_plus : (w : ℕ) (x u v : ℕ → A) → dot R w x (λ i. R.add (u i) (v i)) ≡ R.add (dot R w x u) (dot R w x v)
  dot_plus w x u v = simp (dot_is, R.mul_add, sum_add)

  pub dot_scale : (w : ℕ) (x : ℕ → A) (c : A) (v : ℕ → A) → dot R w x (λ i. R.mul c (v i)) ≡ R.mul c (dot R w x v)
  dot_scale w x c v =
      dot_is w x (λ i. R.mul c (v i))
      ∙ sum_ext R w (λ j. R.mul (x j) (R.mul c (v j))) (λ j. R.mul c (R.mul (x j) (v j))) (λ j h. mul_left_comm R (x j) c (v j))
      ∙ sym (mul_sum R w c (λ j. R.mul (x j) (v j))) ∙ ap (R.mul c) (sym (dot_is w x v))

  -- columns, with "times a"
  abbrev pub columns : ℕ → (ℕ → ℕ → A) → LinearMap R (ℕ → A)
  columns w a = sequences R (λ v i. dot R w (a i) v) (λ u v i. dot_plus w (a i) u v) (λ c v i. dot_scale w (a i) c v)

  -- the columns that are nought below w
  abbrev pub IsNoughtBelow : ℕ → (ℕ → A) → Type 0
  IsNoughtBelow w v = (i : ℕ) → i < w → v i ≡ R.nought

  pub nought_stable : (w : ℕ) (a : ℕ → ℕ → A) → IsStable (columns w a) (IsNoughtBelow w)
  nought_stable w a = record {
    none = λ i h. refl;
    plus = λ u v h k i l. ap₂ R.add (h i l) (k i l) ∙ R.add_nought R.nought;
    scale = λ c v h i l. ap (R.mul c) (h i l) ∙ mul_nought R c;
    move = λ v h i l.
        dot_is w (a i) v ∙ sum_ext R w (λ j. R.mul (a i j) (v j)) (λ j. R.nought) (λ j k. ap (R.mul (a i j)) (h j k) ∙ mul_nought R (a i j))
        ∙ sum_nought R w;
  }

  abbrev unit : ℕ → ℕ → A
  unit j i = pick R (nat_eq i j) R.one

  -- the units at the places below n
  unfoldable pub units : ℕ → List (ℕ → A)
  units zero = []
  units (suc n) = unit n ∷ units n

  pub length_units : (n : ℕ) → length (units n) ≡ n
  unfolding units
  length_units zero = refl
  length_units (suc n) = ap suc (length_units n)

  -- a column that is nought from n to w is reached with the units below n
  pub units_reach : (w : ℕ) (a : ℕ → ℕ → A) (n : ℕ) (v : ℕ → A) → ((i : ℕ) → n ≤ i → i < w → v i ≡ R.nought)
      → Reaches (columns w a) (IsNoughtBelow w) (units n) v
  unfolding units Reaches
  units_reach w a zero v h = λ i k. h i (omega arith) k
  units_reach w a (suc n) v h = (
    R.neg (v n),
    units_reach w a n (λ i. R.add (v i) (R.mul (R.neg (v n)) (unit n i))) (λ i k l. elim (cases_eq i n) [
      | inl same ↦
          ap (R.add (v i)) (ap (R.mul (R.neg (v n))) (pick_of R (nat_eq i n) R.one (eq-eqb i n same)) ∙ R.mul_one (R.neg (v n)))
          ∙ ap (λ j. R.add (v i) (R.neg (v j))) (sym same) ∙ R.add_neg (v i)
      | inr apart ↦
          ap (R.add (v i)) (ap (R.mul (R.neg (v n))) (pick_off R (nat_eq i n) R.one (ne_eqb i n apart)) ∙ mul_nought R (R.neg (v n)))
          ∙ R.add_nought (v i) ∙ h i (omega arith) l
    ]),
  )
