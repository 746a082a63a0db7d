-- What holds of the order of simples, and of full characters for all simples by good tables (Coste, Gannon, Ruelle 2000). Elements are
-- numbers below the order of the group, i and j are simples.
use Rattle.std.specs.Prelude.{◌≡◌, ℕ, ◌<◌, List, length}
use Rattle.std.specs.List.Sorted.{IsPermutation, IsSorted}
use Rattle.table_check.specs.Characters.{RowsOver}
use Rattle.group_table.specs.Group.{product, Commute}
use Rattle.classes.specs.Conjugacy.{conjugate, representative_at}
use Rattle.cyclotomic.specs.Cyclotomic.{cyclotomic}
use Rattle.cyclotomic.specs.Ring.{value_product}
use Rattle.cyclotomic.specs.CyclotomicRing.{root}
use Rattle.slant.specs.Phases.{carried, transport_phase}
use Rattle.transport.specs.Simples.{SimplesOver, compare, rows_below, simples_of, count, class_at, AreSimples}
use Rattle.transport.specs.FullCharacters.{root_exponent, carried_value, full_character}
use Rattle.transport.specs.SSums.{pair_term}

-- x is an element of the group
abbrev pub IsElement : SimplesOver → ℕ → Type 0
IsElement s x = x < s.cocycle.group.order

-- the full character is the same by every c that carries the representative a of the class of i to g = c a c^-1
abbrev pub TransporterIndependent : Type 0
TransporterIndependent =
    (k : ℕ) (s : SimplesOver) → AreSimples k s → (i g x c : ℕ) → i < count k s → IsElement s g → IsElement s x → IsElement s c → Commute s.cocycle.group g x →
    conjugate s.cocycle.group c (representative_at s.cocycle.group (class_at k s i)) ≡ g → (full_character k s i g x).value ≡ (carried_value k s i g x c).value

-- at g and x it is e(th_g(x,c) / th_g(c, c^-1 x c)) times that at c^-1 g c and c^-1 x c
abbrev pub Covariant : Type 0
Covariant =
    (k : ℕ) (s : SimplesOver) → AreSimples k s → (i g x c : ℕ) → i < count k s → IsElement s g → IsElement s x → IsElement s c → Commute s.cocycle.group g x →
    (full_character k s i g x).value
    ≡ value_product (cyclotomic k) (root k (root_exponent k s.cocycle (transport_phase s.cocycle g x c)))
    (full_character k s i (carried s.cocycle.group g c) (carried s.cocycle.group x c)).value

-- the term of S is the same at all conjugates of a pair
abbrev pub TermsInvariant : Type 0
TermsInvariant =
    (k : ℕ) (s : SimplesOver) → AreSimples k s → (i j g h c : ℕ) → i < count k s → j < count k s → IsElement s g → IsElement s h → IsElement s c → Commute s.cocycle.group g h →
    (pair_term k s i j (carried s.cocycle.group g c) (carried s.cocycle.group h c)).value ≡ (pair_term k s i j g h).value

-- the simples are all rows of all tables
abbrev pub SimplesAreRows : Type 0
SimplesAreRows = (k : ℕ) (tables : List RowsOver) → IsPermutation (rows_below k (length tables) tables) (simples_of k tables)

-- in ascending order
abbrev pub SimplesAscend : Type 0
SimplesAscend = (k : ℕ) (tables : List RowsOver) → IsSorted compare (simples_of k tables)
