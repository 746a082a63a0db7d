-- Laws of sums over a finite type.
use Rattle.algebra.proofs.Names.{◌≡◌, Bool, true, false, refl, sym, ◌∙◌, ap, eqb, eq-eqb, eqb-true, fun_ext, CommRing, sum_below, pick, multiple, Finite, equals, total}
use Rattle.algebra.proofs.SumLaws.{sum_map, sum_ext, sum_nought, sum_add, mul_sum, sum_mul, pick_sum, sum_exchange, sum_constant, sum_pick}

-- equality of elements as a test
module _ {G : Type 0} (F : Finite G) where
  pub equals_index : (x y : G) → equals F x y ≡ eqb (F.index x) (F.index y)
  unfolding equals
  equals_index x y = refl

  -- elements with one index are one
  pub index_injective : (x y : G) → F.index x ≡ F.index y → x ≡ y
  index_injective x y h = sym (F.at_index x) ∙ ap F.at h ∙ F.at_index y

  pub equals_true : (x y : G) → equals F x y ≡ true → x ≡ y
  equals_true x y h = index_injective x y (eqb-true (F.index x) (F.index y) (sym (equals_index x y) ∙ h))

  pub equals_of : (x y : G) → x ≡ y → equals F x y ≡ true
  equals_of x y h = equals_index x y ∙ eq-eqb (F.index x) (F.index y) (ap F.index h)

  pub equals_false : (x y : G) → (x ≡ y → ⊥) → equals F x y ≡ false
  equals_false x y h = not_true (equals F x y) (λ e. h (equals_true x y e))
    where
      not_true : (b : Bool) → (b ≡ true → ⊥) → b ≡ false
      not_true true n = absurd (n refl)
      not_true false n = refl

-- a test of elements may be carried along a map that has an inverse
module _ {G H : Type 0} (F : Finite G) (E : Finite H) where
  pub equals_along : (p : G → H) (q : H → G) → ((x : G) → q (p x) ≡ x) → ((y : H) → p (q y) ≡ y) → (x : G) (y : H) → equals E y (p x) ≡ equals F x (q y)
  equals_along p q qp pq x y = both (equals E y (p x)) (equals F x (q y)) (λ h. equals_of F x (q y) (sym (qp x) ∙ ap q (sym (equals_true E y (p x) h)))) (λ h. equals_of E y (p x) (sym (pq y) ∙ ap p (sym (equals_true F x (q y) h))))
    where
      both : (b c : Bool) → (b ≡ true → c ≡ true) → (c ≡ true → b ≡ true) → b ≡ c
      both true c f g = sym (f refl)
      both false true f g = g refl
      both false false f g = refl

module _ {A G : Type 0} (R : CommRing A) (F : Finite G) where
  pub total_sum : (f : G → A) → total R F f ≡ sum_below R F.size (λ i. f (F.at i))
  unfolding total
  total_sum f = refl

  pub total_ext : (f g : G → A) → ((x : G) → f x ≡ g x) → total R F f ≡ total R F g
  total_ext f g h = ap (λ k. total R F k) (fun_ext h)

  pub total_nought : total R F (λ x. R.nought) ≡ R.nought
  total_nought = total_sum (λ x. R.nought) ∙ sum_nought R F.size

  pub total_add : (f g : G → A) → total R F (λ x. R.add (f x) (g x)) ≡ R.add (total R F f) (total R F g)
  unfolding total
  total_add f g = sum_add R F.size (λ i. f (F.at i)) (λ i. g (F.at i))

  pub mul_total : (c : A) (f : G → A) → R.mul c (total R F f) ≡ total R F (λ x. R.mul c (f x))
  unfolding total
  mul_total c f = mul_sum R F.size c (λ i. f (F.at i))

  pub total_mul : (f : G → A) (c : A) → R.mul (total R F f) c ≡ total R F (λ x. R.mul (f x) c)
  unfolding total
  total_mul f c = sum_mul R F.size (λ i. f (F.at i)) c

  pub pick_total : (b : Bool) (f : G → A) → pick R b (total R F f) ≡ total R F (λ x. pick R b (f x))
  unfolding total
  pick_total b f = pick_sum R F.size b (λ i. f (F.at i))

  pub total_constant : (c : A) → total R F (λ x. c) ≡ multiple R F.size c
  unfolding total
  total_constant c = sum_constant R F.size c

  -- a total with one term, at a
  pub total_pick : (a : G) (f : G → A) → total R F (λ x. pick R (equals F x a) (f x)) ≡ f a
  unfolding total equals
  total_pick a f =
      sum_ext R F.size (λ i. pick R (eqb (F.index (F.at i)) (F.index a)) (f (F.at i))) (λ i. pick R (eqb i (F.index a)) (f (F.at i))) (λ i h. ap (λ k. pick R (eqb k (F.index a)) (f (F.at i))) (F.index_at i h))
      ∙ sum_pick R F.size (F.index a) (λ i. f (F.at i)) (F.index_below a)
      ∙ ap f (F.at_index a)

-- totals over two types
module _ {A G H : Type 0} (R : CommRing A) (F : Finite G) (E : Finite H) where
  pub total_exchange : (f : G → H → A) → total R F (λ x. total R E (λ y. f x y)) ≡ total R E (λ y. total R F (λ x. f x y))
  unfolding total
  total_exchange f = sum_exchange R F.size E.size (λ i j. f (F.at i) (E.at j))

  -- a total may be taken along a map that has an inverse
  pub total_reindex : (p : G → H) (q : H → G) → ((x : G) → q (p x) ≡ x) → ((y : H) → p (q y) ≡ y) → (f : H → A) → total R F (λ x. f (p x)) ≡ total R E f
  total_reindex p q qp pq f =
      total_ext R F (λ x. f (p x)) (λ x. total R E (λ y. pick R (equals E y (p x)) (f y))) (λ x. sym (total_pick R E (p x) f))
      ∙ total_exchange (λ x y. pick R (equals E y (p x)) (f y))
      ∙ total_ext R E (λ y. total R F (λ x. pick R (equals E y (p x)) (f y))) f
      (λ y. total_ext R F (λ x. pick R (equals E y (p x)) (f y)) (λ x. pick R (equals F x (q y)) (f y)) (λ x. ap (λ b. pick R b (f y)) (equals_along F E p q qp pq x y))
      ∙ total_pick R F (q y) (λ x. f y))

-- a map that respects sums goes through totals
module _ {A B G : Type 0} (R : CommRing A) (S : CommRing B) (F : Finite G) (h : A → B) (respects : (x y : A) → h (R.add x y) ≡ S.add (h x) (h y)) where
  pub total_map : (f : G → A) → h (total R F f) ≡ total S F (λ x. h (f x))
  unfolding total
  total_map f = sum_map R S h respects F.size (λ i. f (F.at i))
