-- Tables whose values are sums of roots of unity, as the traces of matrices of finite order are (textbook), and what fits in them.
use Rattle.std.specs.Prelude.{◌≡◌, ◌≢◌, ℕ, ◌*◌, ◌<◌, ◌≤◌, true, Some, length}
use Rattle.cyclotomic.specs.Conductors.{is_conductor}
use Rattle.cyclotomic.specs.CyclotomicRing.{CyclotomicValue}
use Rattle.qd_ring.specs.RootSums.{IsSumOfRoots}
use Rattle.twisted.specs.Twist.{TwistedSubgroup, size, IsTwist}
use Rattle.twisted.specs.Regular.{rank}
use Rattle.table_check.specs.Characters.{Characters, characters_of}
use Rattle.table_check.specs.Fitting.{SidesFit}
use Rattle.table_check.specs.Check.{table_miss}
use Rattle.table_check.specs.Answers.{fit_at}
use Rattle.table_check.specs.declared.miss.Clause.TheVariants.{Count}
use Rattle.table_check.specs.declared.miss.Miss.{Miss}
use Rattle.transport.specs.Simples.{SimplesOver, AreSimples, count, table_at}
use Rattle.transport.specs.SSums.{s_sum}

-- each value of a row over m places is a sum of d roots of unity, where d d is at most m
pub record IsRootRow (k m : ℕ) (value : ℕ → CyclotomicValue k) : Type 0 where
  pub degree : ℕ
  pub square : degree * degree ≤ m
  pub roots : (x : ℕ) → x < m → IsSumOfRoots k degree (value x)

-- each row of a table is such, and there are at most as many rows as places
pub record AreRootRows {k : ℕ} (s : TwistedSubgroup) (table : Characters k) : Type 0 where
  pub count : table.count ≤ size s
  pub row : (i : ℕ) → i < table.count → IsRootRow k (size s) (table.chi i)

-- in such a table no side of a clause overflows anywhere
abbrev pub RootRowsFit : Type 0
RootRowsFit =
    (k : ℕ) → is_conductor k ≡ true → (s : TwistedSubgroup) → IsTwist s → (table : Characters k) → AreRootRows s table → SidesFit s table

-- so that what it misses first is a clause that fails, and no side that overflows; and not their number, where there are as many rows as the
-- rank
abbrev pub RootRowsMissClauses : Type 0
RootRowsMissClauses =
    (k : ℕ) → is_conductor k ≡ true → (s : TwistedSubgroup) → IsTwist s → (table : Characters k) → AreRootRows s table →
    (miss : Miss) → table_miss s table ≡ Some miss → (fit_at s table miss ≡ true) × (table.count ≡ rank s → miss.clause ≢ Count)

-- the tables of all classes are such
abbrev pub HasRootRows : ℕ → SimplesOver → Type 0
HasRootRows k s = (c : ℕ) → c < length s.tables → AreRootRows (table_at s.tables c).over (characters_of k (table_at s.tables c).rows)

-- of simples by such tables no numerator of S overflows
abbrev pub RootSimplesFit : Type 0
RootSimplesFit = (k : ℕ) (s : SimplesOver) → AreSimples k s → HasRootRows k s → (i j : ℕ) → i < count k s → j < count k s → (s_sum k s i j).fits ≡ true
