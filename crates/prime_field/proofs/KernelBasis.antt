-- The kept rows that aren't gone are the basis of the solutions in reduced form.
use Rattle.prime_field.proofs.Names.{◌≡◌, ◌≢◌, inl, inr, ℕ, zero, suc, ◌<◌, Bool, true, false, List, [], ◌∷◌, ◌++◌, length, get_or, length-append, add-one, refl, sym, ◌∙◌, ap, arith, cond, cases_order, get_or_push, get_or_append_left, All-get_or, ap₂, CommRing, sum_below, pick, mul_nought, sum_zero, sum_suc, sum_ext, pick_true, pick_false, passing_below, passing_below-zero, passing_below-suc, IsPassing, passing_below-all, passing_below-ascending, Solves, IsCombination, IsReduced, IsFree, IsGone, IsSolved}
use Rattle.prime_field.proofs.EliminationSteps.{dot_ext}

module _ {A : Type 0} (R : CommRing A) where
  -- a sum over the numbers that pass a test
  abbrev listed_sum : List ℕ → (ℕ → A) → A
  listed_sum xs g = sum_below R (length xs) (λ i. g (get_or xs i 0))

  listed_sum-push : (xs : List ℕ) (x : ℕ) (g : ℕ → A) → listed_sum (xs ++ x ∷ []) g ≡ R.add (listed_sum xs g) (g x)
  listed_sum-push xs x g =
      rw (length-append xs (x ∷ []), add-one (length xs))
      (sum_suc R (length xs) _
      ∙ ap₂ R.add (sum_ext R (length xs) _ _ (λ i h. ap g (get_or_append_left xs (x ∷ []) 0 i h))) (ap g (get_or_push xs x 0 (length xs) refl)))

  sum_passing : (n : ℕ) (test : ℕ → Bool) (g : ℕ → A) → listed_sum (passing_below n test) g ≡ sum_below R n (λ f. pick R (test f) (g f))
  sum_passing zero test g = rw (passing_below-zero test) (sum_zero R _ ∙ sym (sum_zero R _))
  sum_passing (suc n) test g = rw (passing_below-suc n test, sum_suc R n (λ f. pick R (test f) (g f))) (by (test n) (sum_passing n test g))
    where
      by : (b : Bool) → listed_sum (passing_below n test) g ≡ sum_below R n (λ f. pick R (test f) (g f))
          → listed_sum (cond b (passing_below n test ++ n ∷ []) (passing_below n test)) g ≡ R.add (sum_below R n (λ f. pick R (test f) (g f))) (pick R b (g n))
      by true before = listed_sum-push (passing_below n test) n g ∙ ap₂ R.add before (sym (pick_true R (g n)))
      by false before = before ∙ sym (ap (R.add _) (pick_false R (g n)) ∙ R.add_nought _)

  -- the test tells the rows that are there from those that are gone
  pub record IsTold (w : ℕ) (p : ℕ → ℕ → A) (test : ℕ → Bool) : Type 0 where
    pub there : (f : ℕ) → f < w → test f ≡ true → IsFree R w p f
    pub gone : (f : ℕ) → f < w → test f ≡ false → IsGone R w p f

  -- b has the rows that are there, one after another
  module _ (n w : ℕ) (e p : ℕ → ℕ → A) (test : ℕ → Bool) (solved : IsSolved R n w e p) (told : IsTold w p test) (count : ℕ) (b : ℕ → ℕ → A)
      (count_is : count ≡ length (passing_below w test)) (rows : (i m : ℕ) → i < count → m < w → b i m ≡ p (get_or (passing_below w test) i 0) m) where
    abbrev begin : ℕ → ℕ
    begin i = get_or (passing_below w test) i 0

    passing : (i : ℕ) → i < count → IsPassing w test (begin i)
    passing i h = All-get_or (IsPassing w test) (passing_below w test) i 0 (omega arith) (passing_below-all w test)

    free : (i : ℕ) → i < count → IsFree R w p (begin i)
    free i h = told.there (begin i) (passing i h).below (passing i h).passes

    ascends : (i j : ℕ) → i < j → j < count → begin i < begin j
    ascends i j less last = passing_below-ascending w test i j less (omega arith)

    pub basis_reduced : IsReduced R count w b
    basis_reduced = record {
      place = begin;
      place_below = λ i h. (passing i h).below;
      begins_with_one = λ i h. rows i (begin i) h (passing i h).below ∙ (free i h).one;
      nought_before = λ i m h k. rows i m h (let below = (passing i h).below in omega arith) ∙ (free i h).before m k;
      further_right = ascends;
      nought_in_others = λ i j h k apart. rows j (begin i) k (passing i h).below ∙ (free i h).others (begin j) (passing j k).below (different i j h k apart);
    }
      where
        different : (i j : ℕ) → i < count → j < count → i ≢ j → begin j ≢ begin i
        different i j h k apart same = elim (cases_order i j) [
          | inl equal ↦ apart equal
          | inr (inl less) ↦ (let a = ascends i j less k in omega arith)
          | inr (inr more) ↦ (let a = ascends j i more h in omega arith)
        ]

    pub basis_solves : (i : ℕ) → i < count → Solves R n w e (b i)
    basis_solves i h j k = dot_ext R w (e j) (b i) (e j) (p (begin i)) (λ m l. refl) (λ m l. rows i m h l) ∙ solved.solves (begin i) (passing i h).below j k

    -- a solution is the combination with its own numbers at the places of the basis
    pub basis_spans : (v : ℕ → A) → Solves R n w e v → IsCombination R count w b (λ i. v (begin i)) v
    basis_spans v sv m h =
        sym (solved.complete v sv m h)
        ∙ sum_ext R w _ (λ f. pick R (test f) (R.mul (v f) (p f m))) (λ f k. kept f k (test f) refl)
        ∙ sym (sum_passing w test (λ f. R.mul (v f) (p f m)))
        ∙ rw (← count_is) (sum_ext R count _ _ (λ i k. ap (R.mul (v (begin i))) (sym (rows i m k h))))
      where
        kept : (f : ℕ) → f < w → (b : Bool) → test f ≡ b → R.mul (v f) (p f m) ≡ pick R b (R.mul (v f) (p f m))
        kept f k true q = sym (pick_true R _)
        kept f k false q = ap (R.mul (v f)) (told.gone f k q m h) ∙ mul_nought R (v f) ∙ sym (pick_false R _)
