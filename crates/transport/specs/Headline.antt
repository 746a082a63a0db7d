-- The theory of modular data, for the simples by any good tables (Coste, Gannon, Ruelle 2000; Verlinde 1988): equations of the cyclotomic
-- ring, or of numbers. M is n S, with n for the order of the group, D_i the dimension of the simple i and t_i its twist.
use Rattle.std.specs.Prelude.{◌≡◌, ℕ, ◌*◌, ◌/◌, ◌<◌}
use Rattle.cyclotomic.specs.Cyclotomic.{cyclotomic}
use Rattle.cyclotomic.specs.Ring.{value_one}
use Rattle.cyclotomic.specs.CyclotomicRing.{CyclotomicValue, root, conjugate}
use Rattle.group_table.specs.Group.{product, Commute}
use Rattle.classes.specs.Conjugacy.{conjugate as conjugation, representative_at}
use Rattle.slant.specs.Phases.{theta}
use Rattle.table_check.specs.Formed.{whole}
use Rattle.transport.specs.Simples.{SimplesOver, count, class_at, dimension_at, AreSimples}
use Rattle.transport.specs.FullCharacters.{root_exponent, carried_value, full_character}
use Rattle.transport.specs.Laws.{IsElement}
use Rattle.transport.specs.Fusion.{tensor_character, inner_product, fusion_sum, IsFusionNumber, AreFusionNumbers}
use Rattle.transport.specs.Matrices.{Matrix, at_equal, sum_of, times, product_of, adjoint, sum_numbers, s_entry, twist_root, by_twists, by_s, by_adjoint, by_inverse_twists, dimensions_product}

-- the law holds of all simples by good tables
abbrev pub OfAllSimples : (ℕ → SimplesOver → Type 0) → Type 0
OfAllSimples Law = (k : ℕ) (s : SimplesOver) → AreSimples k s → Law k s

-- the order of the group
abbrev pub order_of : SimplesOver → ℕ
order_of s = s.cocycle.group.order

module _ (k : ℕ) (s : SimplesOver) where
  -- i is a simple
  abbrev pub IsSimple : ℕ → Type 0
  IsSimple i = i < count k s

  -- u is the full character of i at g and x by every c that carries the representative a of the class of i to g = c a c^-1
  pub record IsByEachTransporter (i g x : ℕ) (u : CyclotomicValue k) : Type 0 where
    pub carried : (c : ℕ) → IsElement s c → conjugation s.cocycle.group c (representative_at s.cocycle.group (class_at k s i)) ≡ g
        → u ≡ (carried_value k s i g x c).value

  -- the inner product of the full characters of i and j is n for i = j, else 0
  pub record CharactersOrthogonal : Type 0 where
    pub orthogonal : (i j : ℕ) → IsSimple i → IsSimple j
        → (inner_product k s (full_character k s i) (full_character k s j)).value ≡ at_equal k i j (whole k (order_of s))

  -- M_ij = M_ji
  abbrev pub SSymmetric : Type 0
  SSymmetric = (i j : ℕ) → IsSimple i → IsSimple j → s_entry k s i j ≡ s_entry k s j i

  -- M_0j = D_j
  abbrev pub VacuumRow : Type 0
  VacuumRow = (j : ℕ) → IsSimple j → s_entry k s 0 j ≡ whole k (dimension_at k s j)

  -- M_00 = 1
  abbrev pub VacuumEntry : Type 0
  VacuumEntry = s_entry k s 0 0 ≡ value_one (cyclotomic k)

  -- the sum over l of M_il conj(M_jl) is n n for i = j, else 0
  abbrev pub SUnitary : Type 0
  SUnitary =
      (i j : ℕ) → IsSimple i → IsSimple j →
      product_of k (count k s) (s_entry k s) (adjoint k (s_entry k s)) i j ≡ at_equal k i j (whole k (order_of s * order_of s))

  -- the sum over l of conj(M_li) M_lj is n n for i = j, else 0
  abbrev pub AdjointUnitary : Type 0
  AdjointUnitary =
      (i j : ℕ) → IsSimple i → IsSimple j →
      product_of k (count k s) (adjoint k (s_entry k s)) (s_entry k s) i j ≡ at_equal k i j (whole k (order_of s * order_of s))

  -- the D_i D_i add up to n n
  abbrev pub SquaresOfDimensions : Type 0
  SquaresOfDimensions = sum_numbers (count k s) (λ i. dimension_at k s i * dimension_at k s i) ≡ order_of s * order_of s

  -- x^t is the value of u_g in its algebra: e(th_g(g,x)) ch_i(g, g x) = x^t ch_i(g,x) for g and x that commute
  abbrev pub TwistsAct : Type 0
  TwistsAct =
      (i g x : ℕ) → IsSimple i → IsElement s g → IsElement s x → Commute s.cocycle.group g x →
      times k (root k (root_exponent k s.cocycle (theta s.cocycle g g x))) (full_character k s i g (product s.cocycle.group g x)).value
      ≡ times k (twist_root k s i) (full_character k s i g x).value

  -- x^t conj(x^t) = 1
  abbrev pub TwistsUnitary : Type 0
  TwistsUnitary = (i : ℕ) → IsSimple i → times k (twist_root k s i) (conjugate k (twist_root k s i)) ≡ value_one (cyclotomic k)

  -- for every matrix A: A M M* = n n A, A M* M = n n A, A T T^-1 = A and A T^-1 T = A, with M* for the transposed conjugate
  pub record StepsAreInverse : Type 0 where
    pub s_undone : (a : Matrix k) (i j : ℕ) → IsSimple j → by_adjoint k s (by_s k s a) i j ≡ times k (whole k (order_of s * order_of s)) (a i j)
    pub adjoint_undone : (a : Matrix k) (i j : ℕ) → IsSimple j → by_s k s (by_adjoint k s a) i j ≡ times k (whole k (order_of s * order_of s)) (a i j)
    pub twists_undone : (a : Matrix k) (i j : ℕ) → IsSimple j → by_inverse_twists k s (by_twists k s a) i j ≡ a i j
    pub inverse_undone : (a : Matrix k) (i j : ℕ) → IsSimple j → by_twists k s (by_inverse_twists k s a) i j ≡ a i j

  -- M T M = n T^-1 M T^-1
  abbrev pub STSRelation : Type 0
  STSRelation =
      (i j : ℕ) → IsSimple i → IsSimple j →
      by_s k s (by_twists k s (s_entry k s)) i j
      ≡ times k (whole k (order_of s)) (times k (times k (conjugate k (twist_root k s i)) (conjugate k (twist_root k s j))) (s_entry k s i j))

  -- M T M T M T = n M M
  abbrev pub STCubeRelation : Type 0
  STCubeRelation =
      (i j : ℕ) → IsSimple i → IsSimple j →
      by_twists k s (by_s k s (by_twists k s (by_s k s (by_twists k s (s_entry k s))))) i j ≡ times k (whole k (order_of s)) (by_s k s (s_entry k s) i j)

  -- M M M M is n^4 for i = j, else 0
  abbrev pub SFourthRelation : Type 0
  SFourthRelation =
      (i j : ℕ) → IsSimple i → IsSimple j →
      by_s k s (by_s k s (by_s k s (s_entry k s))) i j ≡ at_equal k i j (whole k ((order_of s * order_of s) * (order_of s * order_of s)))

  -- n (i*j)(g,x) is the sum over l of I_ijl ch_l(g,x), with the fusion sums I, at g and x that commute
  abbrev pub TensorProductsDecompose : Type 0
  TensorProductsDecompose =
      (i j g x : ℕ) → IsSimple i → IsSimple j → IsElement s g → IsElement s x → Commute s.cocycle.group g x →
      times k (whole k (order_of s)) (tensor_character k s i j g x).value
      ≡ sum_of k (count k s) (λ l. times k (fusion_sum k s i j l).value (full_character k s l g x).value)

  -- the sum over l of I_ijl D_l is n D_i D_j
  abbrev pub FusionDimensions : Type 0
  FusionDimensions =
      (i j : ℕ) → IsSimple i → IsSimple j →
      sum_of k (count k s) (λ l. times k (fusion_sum k s i j l).value (whole k (dimension_at k s l)))
      ≡ whole k (order_of s * (dimension_at k s i * dimension_at k s j))

  -- where the N_l are the fusion numbers of i and j with each l, the N_l D_l add up to D_i D_j
  abbrev pub NumbersOfDimensions : Type 0
  NumbersOfDimensions =
      (i j : ℕ) → IsSimple i → IsSimple j → (number : ℕ → ℕ) → ((l : ℕ) → IsSimple l → IsFusionNumber k s i j l (number l)) →
      sum_numbers (count k s) (λ l. number l * dimension_at k s l) ≡ dimension_at k s i * dimension_at k s j

  -- numbers N that are the fusion numbers of all simples, with what follows of them
  pub record IsFusionRule (number : ℕ → ℕ → ℕ → ℕ) : Type 0 where
    -- each fusion sum I_ijl is n N_ijl
    pub numbers : AreFusionNumbers k s number
    -- they are the tensor multiplicities: (i*j)(g,x) is the sum over l of N_ijl ch_l(g,x) at g and x that commute
    pub multiplicities : (i j g x : ℕ) → IsSimple i → IsSimple j → IsElement s g → IsElement s x → Commute s.cocycle.group g x
        → (tensor_character k s i j g x).value ≡ sum_of k (count k s) (λ l. times k (whole k (number i j l)) (full_character k s l g x).value)
    -- the N_ijl D_l add up to D_i D_j
    pub dimensions : (i j : ℕ) → IsSimple i → IsSimple j
        → sum_numbers (count k s) (λ l. number i j l * dimension_at k s l) ≡ dimension_at k s i * dimension_at k s j
    -- M_il M_jl is D_l times the sum over m of N_ijm M_ml (Verlinde 1988)
    pub columns : (i j l : ℕ) → IsSimple i → IsSimple j → IsSimple l
        → times k (s_entry k s i l) (s_entry k s j l)
        ≡ times k (whole k (dimension_at k s l)) (sum_of k (count k s) (λ m. times k (whole k (number i j m)) (s_entry k s m l)))
    -- with L for the product of all dimensions, n n L N_ijm is the sum over l of (L / D_l) M_il M_jl conj(M_ml) (Verlinde 1988)
    pub by_s : (i j m : ℕ) → IsSimple i → IsSimple j → IsSimple m
        → sum_of k (count k s) (λ l. times k (whole k (dimensions_product k s / dimension_at k s l))
        (times k (times k (s_entry k s i l) (s_entry k s j l)) (conjugate k (s_entry k s m l))))
        ≡ whole k (number i j m * (dimensions_product k s * (order_of s * order_of s)))

  -- fusion numbers are a fusion rule
  abbrev pub NumbersAreRule : Type 0
  NumbersAreRule = (number : ℕ → ℕ → ℕ → ℕ) → AreFusionNumbers k s number → IsFusionRule number

  -- modular data: what holds of the full characters, S and T of the simples
  pub record HasModularData : Type 0 where
    pub characters : CharactersOrthogonal
    pub symmetric : SSymmetric
    pub vacuum_row : VacuumRow
    pub vacuum_entry : VacuumEntry
    pub unitary : SUnitary
    pub squares : SquaresOfDimensions
    pub twists : TwistsAct
    pub product : STSRelation
    pub cube : STCubeRelation
    pub fourth : SFourthRelation
