-- Tensor products of the simples of a twisted quantum double, and their fusion sums (by the coproduct of Dijkgraaf, Pasquier, Roche 1990).
-- Every index g, x and h is an element of the group; i, j and l are simples.
use Rattle.std.specs.Prelude.{◌≡◌, ℕ, ◌*◌, ◌/◌, ◌%◌, ◌<◌}
use Rattle.group_table.specs.Group.{Table, product, inverse, commute}
use Rattle.table_check.specs.Formed.{Formed, conjugated, multiplied, turned, listed, where_so, whole}
use Rattle.slant.specs.Phases.{gamma}
use Rattle.transport.specs.Simples.{SimplesOver, count}
use Rattle.transport.specs.FullCharacters.{root_exponent, full_character}

-- h^-1 g
abbrev pub left_quotient : Table → ℕ → ℕ → ℕ
left_quotient t h g = product t (inverse t h) g

module _ (k : ℕ) (s : SimplesOver) where
  -- the part of i and j at h and h' = h^-1 g: e(ga_x(h,h')) ch_i(h,x) ch_j(h',x)
  abbrev pub tensor_term : ℕ → ℕ → ℕ → ℕ → ℕ → Formed k
  tensor_term i j g x h =
      let other = left_quotient s.cocycle.group h g in
      turned k (root_exponent k s.cocycle (gamma s.cocycle x h other)) (multiplied k (full_character k s i h x) (full_character k s j other x))

  -- the character of the tensor product of i and j at g and x that commute, (i*j)(g,x): the sum of these over all h and h' that commute
  -- with x and have the product g. Where g and h commute with x, so does h'
  abbrev pub tensor_character : ℕ → ℕ → ℕ → ℕ → Formed k
  tensor_character i j g x = listed k s.cocycle.group.order (λ h. where_so k (commute s.cocycle.group h x) (tensor_term i j g x h))

  -- the sum of the values of f at all g and x that commute, listed by the pairs of elements, row after row
  abbrev pub pair_sum : (ℕ → ℕ → Formed k) → Formed k
  pair_sum f = let n = s.cocycle.group.order in listed k (n * n) (λ p. where_so k (commute s.cocycle.group (p / n) (p % n)) (f (p / n) (p % n)))

  -- the inner product, times the order of the group: the sum of p(g,x) conj(r(g,x)) over all g and x that commute (textbook)
  abbrev pub inner_product : (ℕ → ℕ → Formed k) → (ℕ → ℕ → Formed k) → Formed k
  inner_product p r = pair_sum (λ g x. multiplied k (p g x) (conjugated k (r g x)))

  -- the fusion sum of i, j and l, the order of the group times their fusion number: the inner product of (i*j) with ch_l (textbook)
  abbrev pub fusion_sum : ℕ → ℕ → ℕ → Formed k
  fusion_sum i j l = inner_product (tensor_character i j) (full_character k s l)

  -- the fusion sum is so often the order of the group
  abbrev pub IsFusionNumber : ℕ → ℕ → ℕ → ℕ → Type 0
  IsFusionNumber i j l number = (fusion_sum i j l).value ≡ whole k (s.cocycle.group.order * number)

  -- these are the fusion numbers of all simples
  abbrev pub AreFusionNumbers : (ℕ → ℕ → ℕ → ℕ) → Type 0
  AreFusionNumbers number = (i j l : ℕ) → i < count k s → j < count k s → l < count k s → IsFusionNumber i j l (number i j l)
