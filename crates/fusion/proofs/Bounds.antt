-- Fusion numbers are small, since the dimensions of the simples are.
use Rattle.fusion.proofs.Names.{◌≡◌, ℕ, zero, suc, ◌+◌, ◌*◌, ◌<◌, ◌≤◌, None, ap, arith, mul-le-mul, inl, inr, SimplesOver, count, AreSimples, ◌⊎◌, dimension_at, degree, numbers_of_dimensions, fusion_number, pair_fault}
use Rattle.transport.specs.Matrices.{sum_numbers}
use Rattle.transport.proofs.Rows.{last_or_less}
use Rattle.transport.proofs.Dimensions.{some_member}
use Rattle.transport.proofs.SMatrixLaws.{squares_of_dimensions}
use Rattle.fusion.proofs.Faults.{pair_numbers_of}

-- each of the numbers of a sum is at most the sum
part_of_sum : (m : ℕ) (f : ℕ → ℕ) (l : ℕ) → l < m → f l ≤ sum_numbers m f
unfolding sum_numbers
part_of_sum zero f l below = absurd (omega (arith, below))
part_of_sum (suc m) f l below = by (last_or_less l m (omega (arith, below))) (λ less. part_of_sum m f l less)
  where
    by : (l < m) ⊎ (l ≡ m) → (l < m → f l ≤ sum_numbers m f) → f l ≤ sum_numbers m f + f m
    by (inl less) earlier = let before = earlier less in omega (arith, before)
    by (inr last) earlier = omega (arith, ap f last)

-- a number whose square is at most that of another is at most it
root_below : (a n : ℕ) → a * a ≤ n * n → a ≤ n
root_below a n squares = not_over (λ over. let more = mul-le-mul over over in omega (arith, more, squares))
  where
    not_over : (n + 1 ≤ a → ⊥) → a ≤ n
    not_over never = omega (arith, never)

module _ (k : ℕ) (s : SimplesOver) (S : AreSimples k s) where
  -- a dimension is at most the order of the group
  dimension_most : (i : ℕ) → i < count k s → dimension_at k s i ≤ s.cocycle.group.order
  dimension_most i below =
      root_below (dimension_at k s i) s.cocycle.group.order
      (let part = part_of_sum (count k s) (λ l. dimension_at k s l * dimension_at k s l) i below in
      omega (arith, part, squares_of_dimensions k s S))

  -- and at least 1
  dimension_some : (l : ℕ) → l < count k s → 1 ≤ dimension_at k s l
  dimension_some l below =
      let size = some_member k s S (record { value = l; below = below }) in
      let degree_there = (degree k s S (record { value = l; below = below })).0 in
      let product = mul-le-mul size degree_there in
      omega (arith, product)

  pub number_small : s.cocycle.group.order ≤ 60 → (i j l : ℕ) → i < count k s → j < count k s → l < count k s → pair_fault k s i j ≡ None → fusion_number k s i j l ≤ 3600
  number_small order i j l i_below j_below l_below none =
      let number = fusion_number k s i j in
      let sum = numbers_of_dimensions k s S i j i_below j_below number (pair_numbers_of k s i j none) in
      let part = part_of_sum (count k s) (λ r. number r * dimension_at k s r) l l_below in
      let times : number l * 1 ≤ number l * dimension_at k s l = mul-le-mul (same (number l)) (dimension_some l l_below) in
      let i_most : dimension_at k s i ≤ 60 = let most = dimension_most i i_below in omega (arith, most, order) in
      let j_most : dimension_at k s j ≤ 60 = let most = dimension_most j j_below in omega (arith, most, order) in
      let product = mul-le-mul i_most j_most in
      omega (arith, times, part, sum, product)
    where
      same : (n : ℕ) → n ≤ n
      same n = omega arith
