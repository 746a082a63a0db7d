-- What a table misses first, where no side overflows: a clause that fails; and not that of the count, where the count is right.
use Rattle.root_tables.proofs.Names.{◌≡◌, ◌≢◌, sym, ◌∙◌, eq-eqb, ℕ, true, refl, subst, false≢true, IfSome, TwistedSubgroup, rank, Characters, SidesFit, RootRowsMissClauses}
use Rattle.table_check.specs.Answers.{fit_at}
use Rattle.table_check.specs.declared.miss.Clause.TheVariants.{Count}
use Rattle.table_check.specs.declared.miss.Miss.{Miss}
use Rattle.table_check.proofs.Found.{HoldsOfEach, holds_of_miss}
use Rattle.root_tables.proofs.TableRoots.{root_rows_fit}

module _ {k : ℕ} (s : TwistedSubgroup) (table : Characters k) where
  -- no side overflows there; and where there are as many rows as the rank, it is not their number that is missed
  abbrev IsClause : Miss → Type 0
  IsClause m = (fit_at s table m ≡ true) × (table.count ≡ rank s → m.clause ≢ Count)

  each_fits : SidesFit s table → HoldsOfEach s table IsClause
  each_fits fits = record {
    count = λ differs. (refl, λ right e. false≢true (sym differs ∙ eq-eqb table.count (rank s) right));
    degree = λ i row fails. (refl, λ right e. absurd cc);
    unitary = λ i x row place fails. (fits.unitary i x row place, λ right e. absurd cc);
    twist = λ i row fails. (fits.twist i row, λ right e. absurd cc);
    central = λ i y x row other place fails. (fits.central i y x row other place, λ right e. absurd cc);
    product = λ i j x row other place fails. (fits.product i j x row other place, λ right e. absurd cc);
    sum = λ x place fails. (fits.sum x place, λ right e. absurd cc);
    column = λ x y place other fails. (fits.column x y place other, λ right e. absurd cc);
    vacuum = λ own fails. (refl, λ right e. absurd cc);
  }

pub root_rows_miss_clauses : RootRowsMissClauses
root_rows_miss_clauses k entry s twist table rows miss found =
    subst (λ o. IfSome o (IsClause s table)) found
    (holds_of_miss s table (IsClause s table) (each_fits s table (root_rows_fit k entry s twist table rows)))
