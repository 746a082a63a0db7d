-- The rows of the tables of the first classes.
use Rattle.transport.proofs.Names.{◌≡◌, ℕ, suc, ◌+◌, ◌<◌, List, [], ◌++◌, refl, arith, ◌⊎◌, inl, inr, ⊎_elim, cases_lt, RowsOver, table_at, rows_of, rows_below}

pub rows_below-zero : (k : ℕ) (tables : List RowsOver) → rows_below k 0 tables ≡ []
unfolding rows_below
rows_below-zero k tables = refl

pub rows_below-suc : (k c : ℕ) (tables : List RowsOver) → rows_below k (suc c) tables ≡ rows_below k c tables ++ rows_of k c (table_at tables c)
unfolding rows_below
rows_below-suc k c tables = refl

-- a number below c + 1 is below c, or c
pub last_or_less : (n c : ℕ) → n < c + 1 → (n < c) ⊎ (n ≡ c)
last_or_less n c below = ⊎_elim inl (λ past. inr (omega (arith, past, below))) (cases_lt n c)
