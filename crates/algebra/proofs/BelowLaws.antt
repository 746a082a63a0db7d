-- The numbers below n as a finite type and, under the laws of a group, as a group.
use Rattle.algebra.proofs.Names.{◌≡◌, ℕ, ◌%◌, ◌<◌, ap, mod-lt, mod-eq_of_lt, CommRing, sum_below, Finite, total, Group, Below, IsGroupBelow, below_equal}
use Rattle.algebra.proofs.SumLaws.{sum_ext}

-- the numbers below n are numbered by themselves
abbrev pub finite_below : (n : ℕ) → 0 < n → Finite (Below n)
finite_below n positive = record {
  size = n;
  at = λ i. record { value = i % n; below = mod-lt i positive };
  index = λ x. x.value;
  index_below = λ x. x.below;
  at_index = λ x. below_equal (record { value = x.value % n; below = mod-lt x.value positive }) x (mod-eq_of_lt x.below);
  index_at = λ i h. mod-eq_of_lt h;
}

-- the group on the numbers below n that op, inv and one make
abbrev pub group_below : {n : ℕ} {op : ℕ → ℕ → ℕ} {inv : ℕ → ℕ} {one : ℕ} → IsGroupBelow n op inv one → Group (Below n)
group_below {n} {op} {inv} {one} laws = record {
  op = λ x y. record { value = op x.value y.value; below = laws.op_below x.value y.value x.below y.below };
  inv = λ x. record { value = inv x.value; below = laws.inv_below x.value x.below };
  one = record { value = one; below = laws.one_below };
  op_assoc = λ x y z. below_equal _ _ (laws.op_assoc x.value y.value z.value x.below y.below z.below);
  one_op = λ x. below_equal _ _ (laws.one_op x.value x.below);
  op_one = λ x. below_equal _ _ (laws.op_one x.value x.below);
  inv_op = λ x. below_equal _ _ (laws.inv_op x.value x.below);
  op_inv = λ x. below_equal _ _ (laws.op_inv x.value x.below);
}

-- a total over the numbers below n is the sum over 0 .. n - 1
pub total_below : {A : Type 0} (R : CommRing A) (n : ℕ) (positive : 0 < n) (f : ℕ → A) → total R (finite_below n positive) (λ x. f x.value) ≡ sum_below R n f
unfolding total
total_below R n positive f = sum_ext R n (λ i. f (i % n)) f (λ i h. ap f (mod-eq_of_lt h))
