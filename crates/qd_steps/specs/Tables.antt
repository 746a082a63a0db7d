-- The check of the tables of all classes, and the cause of a refusal where a table misses what is asked of it.
use Rattle.std.specs.Prelude.{ℕ, List, length, map, Option, if◌then◌else◌}
use Rattle.std.specs.List.{range_with_len}
use Rattle.std.specs.Option.{option_map}
use Rattle.scan.specs.First.{first}
use Rattle.cochain.specs.Cochain.{Cochain}
use Rattle.classes.specs.Conjugacy.{representatives, representative_at}
use Rattle.cyclotomic.specs.CyclotomicRing.{CyclotomicValue}
use Rattle.qd_ring.specs.CycArrays.{array_of}
use Rattle.qd_ring.specs.declared.plain.Plain.{Plain}
use Rattle.twisted.specs.Twist.{TwistedSubgroup}
use Rattle.twisted.specs.Regular.{rank}
use Rattle.slant.specs.Twists.{twist_of}
use Rattle.qd_doc.specs.Blocks.{Block, block_at}
use Rattle.table_check.specs.Characters.{Characters, RowsOver, characters_of}
use Rattle.table_check.specs.Check.{table_miss}
use Rattle.table_check.specs.Answers.{second_of, third_of, site_of, left_of, right_of, fit_at}
use Rattle.table_check.specs.Sides.{twist_left}
use Rattle.table_check.specs.declared.identity_name.IdentityName.{IdentityName}
use Rattle.table_check.specs.declared.identity_name.IdentityName.TheVariants as names
use Rattle.table_check.specs.declared.miss.Clause.{Clause}
use Rattle.table_check.specs.declared.miss.Clause.TheVariants as clauses
use Rattle.table_check.specs.declared.miss.Miss.{Miss}
use Rattle.transport.specs.Simples.{SimplesOver, table_at}
use Rattle.data_print.specs.declared.cause.Cause.{Cause}
use Rattle.data_print.specs.declared.cause.Cause.TheVariants.{Count, Identity, NoTwist, NoVacuum, Overflow}

-- a value without its conductor
abbrev pub plain_of : (k : ℕ) → CyclotomicValue k → Plain
plain_of k u = record { coefficients = array_of u }

module _ {k : ℕ} (s : TwistedSubgroup) (table : Characters k) where
  -- the equation that fails there, with its two sides
  abbrev pub equation : IdentityName → Miss → Cause
  equation name miss =
      Identity name s.at miss.i (second_of s miss.clause miss.j) (third_of s miss.clause miss.x)
      (plain_of k (left_of s table miss.clause miss.i miss.j miss.x).value) (plain_of k (right_of s table miss.clause miss.i miss.j miss.x).value)

  -- the clause that fails there
  abbrev pub failure : Clause → Miss → Cause
  failure clauses.Count miss = Count s.at table.count (rank s)
  failure clauses.Degree miss = equation names.Degree miss
  failure clauses.Unitary miss = equation names.Unitary miss
  failure clauses.Twist miss = NoTwist s.at miss.i (plain_of k (twist_left s table miss.i).value)
  failure clauses.Central miss = equation names.Central miss
  failure clauses.Product miss = equation names.Product miss
  failure clauses.Sum miss = equation names.Sum miss
  failure clauses.Column miss = equation names.Column miss
  failure clauses.Vacuum miss = NoVacuum table.count

  -- why the table is refused for what it misses: a side that overflows goes before a clause that fails
  abbrev pub cause_of_miss : Miss → Cause
  cause_of_miss miss = if fit_at s table miss then failure miss.clause miss else Overflow (site_of s miss)

  -- why the table is refused, at its first miss
  abbrev pub table_cause : Option Cause
  table_cause = option_map cause_of_miss (table_miss s table)

-- why these rows over a twisted centraliser are refused as a table
abbrev pub cause_over : (k : ℕ) → RowsOver → Option Cause
cause_over k rows = table_cause rows.over (characters_of k rows.rows)

-- why the first of these is refused
abbrev pub first_cause : (k : ℕ) → List RowsOver → Option Cause
first_cause k tables = first (length tables) (λ c. cause_over k (table_at tables c))

-- the twisted centraliser of the class with the number c
abbrev pub class_twist : Cochain → ℕ → TwistedSubgroup
class_twist w c = twist_of w (representative_at w.group c)

-- the table of the class with the number c
abbrev pub class_table : (k : ℕ) → List Block → ℕ → Characters k
class_table k blocks c = characters_of k (block_at blocks c).rows

-- why the first table that misses something is refused, by the order of the classes
unfoldable pub tables_cause : Cochain → ℕ → List Block → Option Cause
tables_cause w k blocks = first (length (representatives w.group)) (λ c. table_cause (class_twist w c) (class_table k blocks c))

-- the rows of the class with the number c, over its twisted centraliser
abbrev pub class_rows : Cochain → List Block → ℕ → RowsOver
class_rows w blocks c = record { over = class_twist w c; rows = (block_at blocks c).rows }

-- those of all classes, in order
unfoldable pub tables_of : Cochain → List Block → List RowsOver
tables_of w blocks = map (class_rows w blocks) (range_with_len 0 (length (representatives w.group)))

-- the simples of a cocycle by these rows
abbrev pub simples_over : Cochain → List Block → SimplesOver
simples_over w blocks = record { cocycle = w; tables = tables_of w blocks }
