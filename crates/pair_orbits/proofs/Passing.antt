-- Sums over lists of the numbers that pass a test, and how long these lists are.
use Rattle.pair_orbits.proofs.Names.{◌≡◌, ℕ, zero, suc, ◌+◌, Bool, true, false, cond, List, [], ◌∷◌, ◌++◌, length, map, refl, sym, ap, ap₂, ◌∙◌, arith, length-append, add-zero, sum_by, map-append, sum_by-append, sum_by-cons, CommRing, sum_zero, sum_suc, sum_list_nil, sum_list_push, pick_true, pick_false, multiple_zero, multiple_add, multiple_one, passing_below, passing_below-zero, passing_below-suc, sum_below, multiple, sum_list, pick_in}
use Rattle.orders.proofs.Sums.{total, pick}

-- a list whose elements are mapped twice, and a sum over one
pub map_again : {X Y Z : Type 0} (f : X → Y) (g : Y → Z) (xs : List X) → map g (map f xs) ≡ map (λ x. g (f x)) xs
map_again f g [] = refl
map_again f g (x ∷ xs) = ap (λ ys. g (f x) ∷ ys) (map_again f g xs)

pub sum_by_again : {X Y : Type 0} (f : X → Y) (g : Y → ℕ) (xs : List X) → sum_by g (map f xs) ≡ sum_by (λ x. g (f x)) xs
sum_by_again f g [] = refl
sum_by_again f g (x ∷ xs) =
    sum_by-cons g (f x) (map f xs) ∙ ap (λ n. g (f x) + n) (sum_by_again f g xs) ∙ sym (sum_by-cons (λ x. g (f x)) x xs)

-- a sum of numbers over the list
pub passing_total : (n : ℕ) (test : ℕ → Bool) (f : ℕ → ℕ) → sum_by f (passing_below n test) ≡ total n (λ i. pick (test i) (f i))
unfolding total
passing_total zero test f = ap (sum_by f) (passing_below-zero test)
passing_total (suc n) test f = ap (sum_by f) (passing_below-suc n test) ∙ by (test n) (passing_below n test) (passing_total n test f)
  where
    by : (b : Bool) (front : List ℕ) → sum_by f front ≡ total n (λ i. pick (test i) (f i))
        → sum_by f (cond b (front ++ n ∷ []) front) ≡ total n (λ i. pick (test i) (f i)) + pick b (f n)
    by true front e = let more = sum_by-append f front (n ∷ []) in omega (arith, e, more)
    by false front e = e ∙ sym (add-zero (total n (λ i. pick (test i) (f i))))

module _ {A : Type 0} (R : CommRing A) where
  -- a sum in a ring over the list
  pub passing_sum : (n : ℕ) (test : ℕ → Bool) (f : ℕ → A) → sum_list R (map f (passing_below n test)) ≡ sum_below R n (λ i. pick_in R (test i) (f i))
  passing_sum zero test f = ap (λ xs. sum_list R (map f xs)) (passing_below-zero test) ∙ sum_list_nil R ∙ sym (sum_zero R _)
  passing_sum (suc n) test f =
      ap (λ xs. sum_list R (map f xs)) (passing_below-suc n test) ∙ by (test n) (passing_below n test) (passing_sum n test f)
      ∙ sym (sum_suc R n (λ i. pick_in R (test i) (f i)))
    where
      by : (b : Bool) (front : List ℕ) → sum_list R (map f front) ≡ sum_below R n (λ i. pick_in R (test i) (f i))
          → sum_list R (map f (cond b (front ++ n ∷ []) front)) ≡ R.add (sum_below R n (λ i. pick_in R (test i) (f i))) (pick_in R b (f n))
      by true front e =
          ap (sum_list R) (map-append f front (n ∷ [])) ∙ sum_list_push R (map f front) (f n) ∙ ap₂ R.add e (sym (pick_true R (f n)))
      by false front e = e ∙ sym (ap (R.add (sum_below R n (λ i. pick_in R (test i) (f i)))) (pick_false R (f n)) ∙ R.add_nought _)

  -- as many copies of x as the list is long
  pub passing_multiple : (n : ℕ) (x : A) (test : ℕ → Bool) → multiple R (length (passing_below n test)) x ≡ sum_below R n (λ i. pick_in R (test i) x)
  passing_multiple zero x test = ap (λ xs. multiple R (length xs) x) (passing_below-zero test) ∙ multiple_zero R x ∙ sym (sum_zero R _)
  passing_multiple (suc n) x test =
      ap (λ xs. multiple R (length xs) x) (passing_below-suc n test) ∙ by (test n) (passing_below n test) (passing_multiple n x test)
      ∙ sym (sum_suc R n (λ i. pick_in R (test i) x))
    where
      by : (b : Bool) (front : List ℕ) → multiple R (length front) x ≡ sum_below R n (λ i. pick_in R (test i) x)
          → multiple R (length (cond b (front ++ n ∷ []) front)) x ≡ R.add (sum_below R n (λ i. pick_in R (test i) x)) (pick_in R b x)
      by true front e =
          ap (λ m. multiple R m x) (length-append front (n ∷ [])) ∙ multiple_add R (length front) 1 x
          ∙ ap₂ R.add e (multiple_one R x ∙ sym (pick_true R x))
      by false front e = e ∙ sym (ap (R.add (sum_below R n (λ i. pick_in R (test i) x))) (pick_false R x) ∙ R.add_nought _)
