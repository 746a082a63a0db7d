-- The two sides of each clause on a table of characters over a twisted centraliser (Coste, Gannon, Ruelle 2000, and textbook). Rows are
-- i and j; x, y and c are places. The element E_i of the twisted group algebra has the value conj(chi_i(x)) at the place x.
use Rattle.std.specs.Prelude.{ℕ, ◌==◌, if◌then◌else◌, Option, unwrap_or}
use Rattle.group_table.specs.Group.{product, inverse, identity_of}
use Rattle.classes.specs.Conjugacy.{conjugate}
use Rattle.cyclotomic.specs.CyclotomicRing.{root}
use Rattle.qd_ring.specs.declared.cyc.Cyc.{Cyc}
use Rattle.twisted.specs.Twist.{TwistedSubgroup, size, phase, place_of}
use Rattle.twisted.specs.Regular.{kappa}
use Rattle.twisted.specs.Algebra.{left_quotient, exponent}
use Rattle.table_check.specs.Characters.{Characters, RowsOver, characters_of}
use Rattle.table_check.specs.Formed.{Formed, given, whole, conjugated, multiplied, turned, listed, where_so, Forms}

-- x y^-1
abbrev pub right_quotient : TwistedSubgroup → ℕ → ℕ → ℕ
right_quotient s x y = product s.group x (inverse s.group y)

-- the place of the element that the centraliser belongs to
abbrev pub own_place : TwistedSubgroup → ℕ
own_place s = unwrap_or (place_of s s.at) 0

-- e(th(x,y)) times a value
abbrev pub with_phase : {k : ℕ} → TwistedSubgroup → ℕ → ℕ → Formed k → Formed k
with_phase {k} s x y u = turned k (exponent k s (phase s x y)) u

-- conj(e(ka(c,x))) where c x c^-1 = y, else 0
abbrev pub column_term : {k : ℕ} → TwistedSubgroup → ℕ → ℕ → ℕ → Formed k
column_term {k} s x y c = where_so k (conjugate s.group c x == y) (conjugated k (given k (root k (exponent k s (kappa s c x)))))

module _ {k : ℕ} (s : TwistedSubgroup) (table : Characters k) where
  -- d_i, the value of row i at the identity
  abbrev pub degree_value : ℕ → Formed k
  degree_value i = given k (table.chi i (identity_of s.group))

  -- conj(chi_i(x)), the value of E_i at x
  abbrev pub conjugate_value : ℕ → ℕ → Formed k
  conjugate_value i x = conjugated k (given k (table.chi i x))

  -- chi_i(x^-1) = e(th(x,x^-1)) conj(chi_i(x))
  abbrev pub unitary_left : ℕ → ℕ → Formed k
  unitary_left i x = given k (table.chi i (inverse s.group x))

  abbrev pub unitary_right : ℕ → ℕ → Formed k
  unitary_right i x = with_phase s x (inverse s.group x) (conjugate_value i x)

  -- chi_i(a) = x^t d_i, for some t
  abbrev pub twist_left : ℕ → Formed k
  twist_left i = given k (table.chi i (own_place s))

  abbrev pub twist_right : ℕ → ℕ → Formed k
  twist_right i t = turned k t (degree_value i)

  -- u_y E_i = E_i u_y, at x
  abbrev pub central_left : ℕ → ℕ → ℕ → Formed k
  central_left i y x = with_phase s y (left_quotient s y x) (conjugate_value i (left_quotient s y x))

  abbrev pub central_right : ℕ → ℕ → ℕ → Formed k
  central_right i y x = with_phase s (right_quotient s x y) y (conjugate_value i (right_quotient s x y))

  -- E_i E_j at x, the sum over y of e(th(y, y^-1 x)) conj(chi_i(y)) conj(chi_j(y^-1 x))
  abbrev pub product_term : ℕ → ℕ → ℕ → ℕ → Formed k
  product_term i j x y = with_phase s y (left_quotient s y x) (multiplied k (conjugate_value i y) (conjugate_value j (left_quotient s y x)))

  abbrev pub product_sum : ℕ → ℕ → ℕ → Formed k
  product_sum i j x = listed k (size s) (product_term i j x)

  -- d_i E_i E_i = m E_i, and E_i E_j = 0 for another j
  abbrev pub product_left : ℕ → ℕ → ℕ → Formed k
  product_left i j x = if i == j then multiplied k (degree_value i) (product_sum i j x) else product_sum i j x

  abbrev pub product_right : ℕ → ℕ → ℕ → Formed k
  product_right i j x = where_so k (i == j) (multiplied k (given k (whole k (size s))) (conjugate_value i x))

  -- the sum over i of d_i E_i is m u_e
  abbrev pub sum_term : ℕ → ℕ → Formed k
  sum_term x i = multiplied k (degree_value i) (conjugate_value i x)

  abbrev pub sum_left : ℕ → Formed k
  sum_left x = listed k table.count (sum_term x)

  abbrev pub sum_right : ℕ → Formed k
  sum_right x = where_so k (x == identity_of s.group) (given k (whole k (size s)))

  -- the sum over i of conj(chi_i(x)) chi_i(y) is that of conj(e(ka(c,x))) over the c with c x c^-1 = y
  abbrev pub row_term : ℕ → ℕ → ℕ → Formed k
  row_term x y i = multiplied k (conjugate_value i x) (given k (table.chi i y))

  abbrev pub column_left : ℕ → ℕ → Formed k
  column_left x y = listed k table.count (row_term x y)

  abbrev pub column_right : ℕ → ℕ → Formed k
  column_right x y = listed k (size s) (column_term s x y)

-- the answer forms this side over these rows
abbrev pub FormsIn : (k : ℕ) → RowsOver → (TwistedSubgroup → Characters k → Formed k) → Option (Cyc k) → Type 0
FormsIn k rows side = Forms (side rows.over (characters_of k rows.rows))
