-- What is kept of the simples of a twisted quantum double.
use Rattle.std.specs.Prelude.{◌≡◌, ℕ, ◌≤◌, ◌<◌, ℤ, List, length, map}
use Rattle.group_table.specs.Group.{Table}
use Rattle.cochain.specs.Cochain.{Cochain}
use Rattle.cyclotomic.specs.CyclotomicRing.{cyclotomic_value}
use Rattle.table_check.specs.Characters.{RowsOver, IsShaped, characters_of}
use Rattle.table_check.specs.Good.{IsGood}
use Rattle.qd_ring.specs.declared.cyc.Cyc.{Cyc}
use Rattle.transport.specs.Simples.{Simple, table_at, simples_of, AreSimples}
use Rattle.transport.specs.declared.entry.Entry.{Entry}

-- the coefficients of each of these values
abbrev pub coefficients_of : (k : ℕ) → List (Cyc k) → List (List ℤ)
coefficients_of k values = map (λ u. (cyclotomic_value k u.coefficients).coefficients) values

-- the simple that an entry is
abbrev pub simple_in : (k : ℕ) → Entry k → Simple
simple_in k e = record { other = e.other; class = e.class; degree = e.degree; values = coefficients_of k e.values.items; row = e.row }

-- the tables of the first n classes are good
pub record AreGood (k n : ℕ) (tables : List RowsOver) : Type 0 where
  pub shaped : (c : ℕ) → c < n → IsShaped k (table_at tables c)
  pub good : (c : ℕ) → c < n → IsGood (table_at tables c).over (characters_of k (table_at tables c).rows)

-- the simples of a cocycle, by the classes of its group, tables for these, and an entry for each simple
pub record IsListed (k : ℕ) (w : Cochain) (classes : Table) (tables : List RowsOver) (entries : List (Entry k)) : Type 0 where
  pub simples : AreSimples k (record { cocycle = w; tables = tables })
  pub classes_are : classes ≡ w.group
  pub listed : map (simple_in k) entries ≡ simples_of k tables
  pub few : length entries ≤ 3600
