-- Values with given multiplicities of roots of unity.
use Rattle.char_lift.proofs.Names.{◌≡◌, ℕ, zero, suc, ◌+◌, ◌-◌, ◌*◌, ◌<◌, ◌≤◌, Bool, true, false, Option, Some, None, refl, sym, ap, ◌∙◌, arith, add-one, ap₂, multiple, sum_zero, is_conductor, value_sum, CyclotomicValue, cyclotomic_ring, root, value_size, IsSumOfRoots, is_some, le-leb, sum_suc, multiple_zero, multiple_suc, sum_ext, sum_of, with_multiplicities}
use Rattle.algebra.specs.Sums.{sum_below}
use Rattle.cyclotomic.specs.Ring.{value_nought}
use Rattle.cyclotomic.specs.Fit.{value_fits, greatest_magnitude}
use Rattle.cyclotomic.proofs.Bounds.{root_size}
use Rattle.qd_ring.proofs.RootSumLaws.{no_root, one_root, roots_same, roots_together, roots_copied, roots_size}
use Rattle.qd_ring.proofs.SizeLaws.{size_sum}
use Rattle.char_lift.proofs.SumLaws.{sum-zero, sum-suc}

-- what is there isn't none
pub there_not_none : {A : Type 0} (o : Option A) (b : Bool) → is_some o ≡ b → b ≡ true → o ≡ None → ⊥
there_not_none (Some a) b there holds absent = absurd cc
there_not_none None b there holds absent = absurd (false_is_not_true (there ∙ holds))
  where
    false_is_not_true : false ≡ true → ⊥
    false_is_not_true e = absurd cc

-- a part of a sum of numbers is at most the sum
pub sum-front : (i d : ℕ) (f : ℕ → ℕ) → sum_of i f ≤ sum_of (d + i) f
sum-front i zero f = omega (arith, ap (λ n. sum_of n f) (zero-plus i))
  where
    zero-plus : (n : ℕ) → 0 + n ≡ n
    zero-plus n = omega arith
sum-front i (suc d) f = omega (arith, sum-front i d f, sum-suc (d + i) f, ap (λ n. sum_of n f) (suc-plus d i))
  where
    suc-plus : (a b : ℕ) → suc a + b ≡ suc (a + b)
    suc-plus a b = omega arith

pub sum-part : (i n : ℕ) (f : ℕ → ℕ) → i ≤ n → sum_of i f ≤ sum_of n f
sum-part i n f h =
    let whole : (n - i) + i ≡ n = omega arith in
    omega (arith, sum-front i (n - i) f, ap (λ m. sum_of m f) whole)

module _ (k : ℕ) where
  -- one more copy
  pub copies_more : (base now next u : CyclotomicValue k) (n : ℕ) → now ≡ value_sum base (multiple (cyclotomic_ring k) n u) → next ≡ value_sum now u
      → next ≡ value_sum base (multiple (cyclotomic_ring k) (n + 1) u)
  copies_more base now next u n before added =
      let R = cyclotomic_ring k in
      added ∙ ap (λ v. value_sum v u) before ∙ R.add_assoc base (multiple R n u) u
      ∙ ap (value_sum base) (sym (multiple_suc R n u) ∙ ap (λ m. multiple R m u) (sym (add-one n)))

  pub copies_none : (base u : CyclotomicValue k) → base ≡ value_sum base (multiple (cyclotomic_ring k) 0 u)
  copies_none base u =
      let R = cyclotomic_ring k in
      sym (R.add_nought base) ∙ ap (value_sum base) (sym (multiple_zero R u))

  -- the value of the copies of the first n roots
  abbrev pub first_copies : ℕ → (ℕ → ℕ) → CyclotomicValue k
  first_copies n counts = sum_below (cyclotomic_ring k) n (λ i. multiple (cyclotomic_ring k) (counts i) (root k i))

  -- that value is a sum of as many roots as there are copies
  pub copies_are_roots : (n : ℕ) (counts : ℕ → ℕ) → IsSumOfRoots k (sum_of n counts) (first_copies n counts)
  copies_are_roots zero counts =
      roots_same k 0 (sum_of 0 counts) value_nought (first_copies 0 counts) (sym (sum-zero counts))
      (sym (sum_zero (cyclotomic_ring k) (λ i. multiple (cyclotomic_ring k) (counts i) (root k i)))) (no_root k)
  copies_are_roots (suc n) counts =
      let more : CyclotomicValue k = multiple (cyclotomic_ring k) (counts n) (root k n) in
      roots_same k (sum_of n counts + counts n * 1) (sum_of (suc n) counts) (value_sum (first_copies n counts) more) (first_copies (suc n) counts)
      (omega (arith, sum-suc n counts))
      (sym (sum_suc (cyclotomic_ring k) n (λ i. multiple (cyclotomic_ring k) (counts i) (root k i))))
      (roots_together k (sum_of n counts) (counts n * 1) (first_copies n counts) more (copies_are_roots n counts)
      (roots_copied k (counts n) 1 (root k n) (one_root k n)))

  pub copies_next : (n : ℕ) (counts : ℕ → ℕ) (now next : CyclotomicValue k) (m : ℕ) → now ≡ first_copies n counts → m ≡ counts n
      → next ≡ value_sum now (multiple (cyclotomic_ring k) m (root k n)) → next ≡ first_copies (n + 1) counts
  copies_next n counts now next m before count added =
      added ∙ ap₂ (λ v c. value_sum v (multiple (cyclotomic_ring k) c (root k n))) before count
      ∙ sym (sum_suc (cyclotomic_ring k) n (λ i. multiple (cyclotomic_ring k) (counts i) (root k i)))
      ∙ ap (λ i. first_copies i counts) (sym (add-one n))

  pub multiplicities_are : (counts : ℕ → ℕ) → first_copies k counts ≡ with_multiplicities k counts
  unfolding with_multiplicities
  multiplicities_are counts = refl

  -- the value depends on the first k multiplicities alone
  pub multiplicities_same : (counts others : ℕ → ℕ) → ((i : ℕ) → i < k → counts i ≡ others i) → with_multiplicities k counts ≡ with_multiplicities k others
  unfolding with_multiplicities
  multiplicities_same counts others same =
      sum_ext (cyclotomic_ring k) k (λ i. multiple (cyclotomic_ring k) (counts i) (root k i)) (λ i. multiple (cyclotomic_ring k) (others i) (root k i))
      (λ i h. ap (λ n. multiple (cyclotomic_ring k) n (root k i)) (same i h))

  module _ (entry : is_conductor k ≡ true) where
    -- one more root adds at most 1 to the size
    pub size_more : (now u : CyclotomicValue k) (e : ℕ) → u ≡ root k e → value_size (value_sum now u) ≤ value_size now + 1
    size_more now u e is = omega (arith, size_sum k now u, ap (λ v. value_size v) is, root_size k entry e)

    pub small_fits : (v : CyclotomicValue k) → value_size v ≤ 60 → value_fits v ≡ true
    unfolding value_fits
    small_fits v h = le-leb (value_size v) greatest_magnitude (omega arith)

    pub copies_size : (n : ℕ) (counts : ℕ → ℕ) (now : CyclotomicValue k) → now ≡ first_copies n counts → value_size now ≤ sum_of n counts
    copies_size n counts now is =
        omega (arith, ap (λ v. value_size v) is, roots_size k entry (sum_of n counts) (first_copies n counts) (copies_are_roots n counts))
