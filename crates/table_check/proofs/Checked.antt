-- What the check answers, from what its parts find.
use Rattle.table_check.proofs.Names.{◌≡◌, ℕ, Some, None, Err, List, refl, sym, subst, ℤ, option_or, TwistedSubgroup, RowsOver, characters_of, row_miss, algebra_miss, Finds, Checks}
use Rattle.table_check.specs.Check.{table_miss}
use Rattle.table_check.specs.declared.refusal.TableRefusal.{TableRefusal}
use Rattle.table_check.specs.declared.refusal.TableRefusal.TheVariants.{Overflow, Count, Identity, NoTwist, NoVacuum, Memory}

-- a refusal of what is missed is an answer of the check
refusal_checks : (k : ℕ) (s : TwistedSubgroup) (rows : List (List (List ℤ))) (refusal : TableRefusal k)
    → Finds s (characters_of k rows) (table_miss s (characters_of k rows)) (Some refusal) → Checks k s rows (Err refusal)
refusal_checks k s rows (Overflow site) found = found
refusal_checks k s rows (Count rows_given rank) found = found
refusal_checks k s rows (Identity name i j x left right) found = found
refusal_checks k s rows (NoTwist row value) found = found
refusal_checks k s rows (NoVacuum rows_given) found = found
refusal_checks k s rows Memory found = absurd found.2

module _ (k : ℕ) (s : TwistedSubgroup) (rows : List (List (List ℤ))) where
  -- the clauses on the values of each row refuse
  pub row_refused : (refusal : TableRefusal k) → Finds s (characters_of k rows) (row_miss s (characters_of k rows)) (Some refusal) → Checks k s rows (Err refusal)
  unfolding table_miss
  row_refused refusal found =
      refusal_checks k s rows refusal
      (found.0, subst (λ o. option_or o (algebra_miss s (characters_of k rows)) ≡ Some found.0) (sym found.1) refl, found.2)

  -- those on the elements of the conjugates do
  pub algebra_refused : (refusal : TableRefusal k) → row_miss s (characters_of k rows) ≡ None
      → Finds s (characters_of k rows) (algebra_miss s (characters_of k rows)) (Some refusal) → Checks k s rows (Err refusal)
  unfolding table_miss
  algebra_refused refusal none found =
      refusal_checks k s rows refusal
      (found.0, subst (λ o. option_or o (algebra_miss s (characters_of k rows)) ≡ Some found.0) (sym none) found.1, found.2)

-- none does, of rows that were handed on unchanged
pub none_refused_of : (k : ℕ) (made given : RowsOver) → made ≡ given → row_miss given.over (characters_of k given.rows) ≡ None
    → algebra_miss given.over (characters_of k given.rows) ≡ None → table_miss made.over (characters_of k made.rows) ≡ None
unfolding table_miss
none_refused_of k made given same row algebra =
    subst (λ (t : RowsOver). table_miss t.over (characters_of k t.rows) ≡ None) (sym same)
    (subst (λ o. option_or o (algebra_miss given.over (characters_of k given.rows)) ≡ None) (sym row) algebra)
