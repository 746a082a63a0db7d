-- What the check of a table answers.
use Rattle.std.specs.Prelude.{◌≡◌, ℕ, ◌+◌, ◌*◌, suc, nat_le, nat_lt, ◌&&◌, ℤ, true, false, List, Option, Result, Ok, Err, None, Some, unwrap_or, Bool, if◌then◌else◌}
use Rattle.scan.specs.First.{first}
use Rattle.cyclotomic.specs.Ring.{value_nought}
use Rattle.cyclotomic.specs.CyclotomicRing.{cyclotomic_value}
use Rattle.qd_ring.specs.declared.site.Site.{Site}
use Rattle.qd_ring.specs.declared.site.Part.{Part}
use Rattle.qd_ring.specs.declared.site.Part.TheVariants as parts
use Rattle.twisted.specs.Twist.{TwistedSubgroup, size, element}
use Rattle.twisted.specs.Regular.{rank}
use Rattle.table_check.specs.Characters.{Characters, RowsOver, characters_of}
use Rattle.table_check.specs.Formed.{Formed, given, whole}
use Rattle.table_check.specs.Sides.{degree_value, unitary_left, unitary_right, twist_left, central_left, central_right, product_left, product_right, sum_left, sum_right, column_left, column_right}
use Rattle.table_check.specs.Check.{where_holds, unless_holds, agree, twists_fit, table_miss}
use Rattle.table_check.specs.declared.identity_name.IdentityName.{IdentityName}
use Rattle.table_check.specs.declared.identity_name.IdentityName.TheVariants as names
use Rattle.table_check.specs.declared.miss.Clause.{Clause}
use Rattle.table_check.specs.declared.miss.Clause.TheVariants.{Count, Degree, Unitary, Twist, Central, Product, Sum, Column, Vacuum}
use Rattle.table_check.specs.declared.miss.Miss.{Miss}
use Rattle.table_check.specs.declared.refusal.TableRefusal.{TableRefusal}
use Rattle.table_check.specs.declared.refusal.TableRefusal.TheVariants as refusals

-- the greatest whole number whose square is at most n
abbrev pub square_root : ℕ → ℕ
square_root n = unwrap_or (first (suc n) (λ d. where_holds (nat_le (d * d) n && nat_lt n ((d + 1) * (d + 1))) d)) 0

-- the clause of the equation of this name
abbrev pub clause_of : IdentityName → Clause
clause_of names.Degree = Degree
clause_of names.Unitary = Unitary
clause_of names.Central = Central
clause_of names.Product = Product
clause_of names.Sum = Sum
clause_of names.Column = Column

-- the kind of the sides of a clause. The last three have none that could overflow, so their line is never met
abbrev pub part_of : Clause → Part
part_of Unitary = parts.Unitary
part_of Twist = parts.Twist
part_of Central = parts.Central
part_of Product = parts.Product
part_of Sum = parts.Sum
part_of Column = parts.Column
part_of Count = parts.Full
part_of Degree = parts.Full
part_of Vacuum = parts.Full

-- the clause on twists, which has a side for each root
abbrev pub is_twist : Clause → Bool
is_twist Twist = true
is_twist clause = false

-- the number j of a miss, where a place is named by its element
abbrev pub second_of : TwistedSubgroup → Clause → ℕ → ℕ
second_of s Central j = element s j
second_of s Column j = element s j
second_of s clause j = j

-- the number x of a miss, where a place is named by its element
abbrev pub third_of : TwistedSubgroup → Clause → ℕ → ℕ
third_of s Count x = x
third_of s Twist x = x
third_of s Vacuum x = x
third_of s clause x = element s x

-- the site of the sides of a clause at a place: the centraliser's element, rows, and elements of the group
abbrev pub site_of : TwistedSubgroup → Miss → Site
site_of s miss = record {
  part = part_of miss.clause;
  at = s.at;
  i = miss.i;
  j = second_of s miss.clause miss.j;
  x = third_of s miss.clause miss.x;
}

module _ {k : ℕ} (s : TwistedSubgroup) (table : Characters k) where
  -- the left side of a clause that is an equation
  abbrev pub left_of : Clause → ℕ → ℕ → ℕ → Formed k
  left_of Degree i j x = degree_value s table i
  left_of Unitary i j x = unitary_left s table i x
  left_of Central i j x = central_left s table i j x
  left_of Product i j x = product_left s table i j x
  left_of Sum i j x = sum_left s table x
  left_of Column i j x = column_left s table x j
  left_of clause i j x = given k value_nought

  -- its right side; of a degree, the greatest that it may be
  abbrev pub right_of : Clause → ℕ → ℕ → ℕ → Formed k
  right_of Degree i j x = given k (whole k (square_root (size s)))
  right_of Unitary i j x = unitary_right s table i x
  right_of Central i j x = central_right s table i j x
  right_of Product i j x = product_right s table i j x
  right_of Sum i j x = sum_right s table x
  right_of Column i j x = column_right s table x j
  right_of clause i j x = given k value_nought

  -- no side overflows there
  abbrev pub fit_at : Miss → Bool
  fit_at miss =
      if is_twist miss.clause then twists_fit s table miss.i
      else (left_of miss.clause miss.i miss.j miss.x).fits && (right_of miss.clause miss.i miss.j miss.x).fits

  -- the place of an equation whose two sides do not agree there
  abbrev pub equation_miss : Clause → ℕ → ℕ → ℕ → Option Miss
  equation_miss clause i j x = unless_holds (agree (left_of clause i j x) (right_of clause i j x)) clause i j x

  -- the equation that fails, at its place, with its two sides
  pub record IsEquationOf (miss : Miss) (name : IdentityName) (i j x : ℕ) (left right : List ℤ) : Type 0 where
    pub clause : miss.clause ≡ clause_of name
    pub row : i ≡ miss.i
    pub second : j ≡ second_of s miss.clause miss.j
    pub third : x ≡ third_of s miss.clause miss.x
    pub left_side : cyclotomic_value k left ≡ (left_of miss.clause miss.i miss.j miss.x).value
    pub right_side : cyclotomic_value k right ≡ (right_of miss.clause miss.i miss.j miss.x).value

  -- what a refusal says of the first miss
  abbrev pub Refuses : TableRefusal k → Miss → Type 0
  Refuses (refusals.Overflow site) miss = (fit_at miss ≡ false) × (site ≡ site_of s miss)
  Refuses (refusals.Count rows rank_wanted) miss = (miss.clause ≡ Count) × (rows ≡ table.count) × (rank_wanted ≡ rank s)
  Refuses (refusals.Identity name i j x left right) miss = (fit_at miss ≡ true) × IsEquationOf miss name i j x left.coefficients right.coefficients
  Refuses (refusals.NoTwist row value) miss =
      (fit_at miss ≡ true) × (miss.clause ≡ Twist) × (row ≡ miss.i) × (cyclotomic_value k value.coefficients ≡ (twist_left s table miss.i).value)
  Refuses (refusals.NoVacuum rows) miss = (miss.clause ≡ Vacuum) × (rows ≡ table.count)
  Refuses refusals.Memory miss = ⊥

  -- a refusal exactly where something is missed, that of what is missed
  abbrev pub Finds : Option Miss → Option (TableRefusal k) → Type 0
  Finds missed None = missed ≡ None
  Finds missed (Some refusal) = (miss : Miss) × (missed ≡ Some miss) × Refuses refusal miss

-- the answer finds what these rows miss
abbrev pub FindsIn : (k : ℕ) → RowsOver → (TwistedSubgroup → Characters k → Option Miss) → Option (TableRefusal k) → Type 0
FindsIn k rows missed = Finds rows.over (characters_of k rows.rows) (missed rows.over (characters_of k rows.rows))

-- the rows are good exactly where nothing is missed; else the refusal is that of the first miss; want of memory says nothing
abbrev pub Checks : (k : ℕ) → TwistedSubgroup → List (List (List ℤ)) → Result RowsOver (TableRefusal k) → Type 0
Checks k s rows (Ok table) = (table_miss s (characters_of k rows) ≡ None) × (table ≡ record { over = s; rows = rows })
Checks k s rows (Err refusals.Memory) = Unit {0}
Checks k s rows (Err refusal) = (miss : Miss) × (table_miss s (characters_of k rows) ≡ Some miss) × Refuses s (characters_of k rows) refusal miss
