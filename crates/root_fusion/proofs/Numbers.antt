-- The dimensions and fusion numbers of simples by good tables are small.
use Rattle.root_fusion.proofs.Names.{◌≡◌, ℕ, zero, suc, ◌+◌, ◌*◌, ◌<◌, ◌≤◌, ap, arith, subst, le_trans, mul-le-mul, ◌⊎◌, inl, inr, SimplesOver, AreSimples, count, dimension_at, OfAllSimples, order_of, DimensionsAreSmall, SimplesAreFew, NumbersAreSmall}
use Rattle.transport.specs.Matrices.{sum_numbers}
use Rattle.transport.proofs.DoubleSimples.{degree}
use Rattle.transport.proofs.Dimensions.{some_member}
use Rattle.transport.proofs.FusionLaws.{numbers_of_dimensions}
use Rattle.transport.proofs.Rows.{last_or_less}
use Rattle.transport.proofs.SMatrixLaws.{simple, squares_of_dimensions}

-- ---- sums of numbers
-- each is at most their sum
term_within : (m : ℕ) (f : ℕ → ℕ) (i : ℕ) → i < m → f i ≤ sum_numbers m f
unfolding sum_numbers
term_within zero f i below = absurd (omega (arith, below))
term_within (suc m) f i below = by (last_or_less i m (omega (arith, below))) (λ less. term_within m f i less)
  where
    by : (i < m) ⊎ (i ≡ m) → (i < m → f i ≤ sum_numbers m f) → f i ≤ sum_numbers m f + f m
    by (inl less) earlier = let within = earlier less in omega (arith, within)
    by (inr last) earlier = let same : f i ≡ f m = ap f last in omega (arith, same)

-- there are at most so many that are at least 1
count_within : (m : ℕ) (f : ℕ → ℕ) → ((i : ℕ) → i < m → 1 ≤ f i) → m ≤ sum_numbers m f
unfolding sum_numbers
count_within zero f some = omega arith
count_within (suc m) f some =
    let before : m ≤ sum_numbers m f = count_within m f (λ i below. some i (omega (arith, below))) in
    let last : 1 ≤ f m = some m (omega arith) in
    omega (arith, before, last)

-- a number is at most its square's root
root_within : (d n : ℕ) → d * d ≤ n * n → d ≤ n
root_within d n squares = at_most (λ great. let more = mul-le-mul great great in omega (arith, more, squares))
  where
    at_most : (suc n ≤ d → ⊥) → d ≤ n
    at_most not_great = omega arith

-- a factor is at most the product, where the other is at least 1
factor_within : (a d : ℕ) → 1 ≤ d → a ≤ a * d
factor_within a d some = let same : a ≤ a = omega arith in let product = mul-le-mul same some in omega (arith, product)

module _ (k : ℕ) (s : SimplesOver) (S : AreSimples k s) where
  positive : (i : ℕ) → i < count k s → 1 ≤ dimension_at k s i
  positive i below =
      let at = simple k s S i below in
      let members = some_member k s S at in
      let degree_there = (degree k s S at).0 in
      let product = mul-le-mul members degree_there in
      omega (arith, product)

  abbrev square : ℕ → ℕ
  square i = dimension_at k s i * dimension_at k s i

  within : (i : ℕ) → i < count k s → dimension_at k s i ≤ order_of s
  within i below =
      let squares = squares_of_dimensions k s S in
      root_within (dimension_at k s i) (order_of s) (subst (λ n. square i ≤ n) squares (term_within (count k s) square i below))

pub dimensions_are_small : OfAllSimples DimensionsAreSmall
dimensions_are_small k s S i below = (positive k s S i below, within k s S i below)

pub simples_are_few : OfAllSimples SimplesAreFew
simples_are_few k s S =
    subst (λ n. count k s ≤ n) (squares_of_dimensions k s S)
    (count_within (count k s) (square k s S) (λ i below. let some = positive k s S i below in mul-le-mul some some))

pub numbers_are_small : OfAllSimples NumbersAreSmall
numbers_are_small k s S number numbers i j l i_below j_below l_below =
    let sums = numbers_of_dimensions k s S i j i_below j_below (number i j) (λ m below. numbers i j m i_below j_below below) in
    le_trans (factor_within (number i j l) (dimension_at k s l) (positive k s S l l_below))
    (subst (λ n. number i j l * dimension_at k s l ≤ n) sums (term_within (count k s) (λ m. number i j m * dimension_at k s m) l l_below))
