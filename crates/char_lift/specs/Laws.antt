-- What is known of lifted rows.
use Rattle.std.specs.Prelude.{◌≡◌, ℕ, ◌*◌, ◌<◌, ◌≤◌, true, ℤ, List, [], length, slice_index_or, Some, None}
use Rattle.cyclotomic.specs.Conductors.{is_conductor}
use Rattle.cyclotomic.specs.CyclotomicRing.{cyclotomic_value}
use Rattle.qd_ring.specs.RowLists.{row_at}
use Rattle.qd_ring.specs.RootSums.{IsSumOfRoots}
use Rattle.twisted.specs.Twist.{TwistedSubgroup, size}
use Rattle.char_lift.specs.Ratios.{character_ratios}
use Rattle.char_lift.specs.Candidate.{degree_of, lifted_value}
use Rattle.char_lift.specs.Faults.{lift_fault, lifted_rows}

-- a row of m values of the cyclotomic ring of conductor K, each a sum of d roots of unity, with d from 1 and d d at most m
pub record IsRowOfRoots (k m : ℕ) (row : List (List ℤ)) : Type 0 where
  pub width : length row ≡ m
  pub degree : ℕ
  pub from_one : 1 ≤ degree
  pub square : degree * degree ≤ m
  pub roots : (x : ℕ) → x < m → IsSumOfRoots k degree (cyclotomic_value k (slice_index_or row x []))

-- where no row fails, there is a lifted row for each, and each is a row of sums of roots of unity
abbrev pub LiftedAreRoots : Type 0
LiftedAreRoots =
    (s : TwistedSubgroup) (q k z count : ℕ) (rows : ℕ → ℕ → ℕ) → is_conductor k ≡ true → lift_fault s q k z count rows ≡ None
    → (length (lifted_rows s q k z count rows) ≡ count) × ((i : ℕ) → i < count → IsRowOfRoots k (size s) (row_at (lifted_rows s q k z count rows) i))

-- where no row fails, each has a degree d, and the value at the place x of its row is the lifted value of the candidate with that degree
abbrev pub LiftedValues : Type 0
LiftedValues =
    (s : TwistedSubgroup) (q k z count : ℕ) (rows : ℕ → ℕ → ℕ) → is_conductor k ≡ true → lift_fault s q k z count rows ≡ None → (i : ℕ) → i < count
    → (d : ℕ) × (degree_of s q k z (character_ratios s q k z (rows i)) ≡ Some d)
    × ((x : ℕ) → x < size s
    → cyclotomic_value k (slice_index_or (row_at (lifted_rows s q k z count rows) i) x []) ≡ lifted_value s q k z (character_ratios s q k z (rows i)) d x)
