use Rattle.table_check.proofs.Names.{sym, ◌∙◌, ap, ◌&&◌, subst, is_some, and_false, clause_of, left_of, right_of, Forms}
use Rattle.table_check.proofs.Equations.{overflow_found, difference_found, nothing_found}
use Rattle.table_check.proofs.compared.equation.Goals as goal

pub returns-in_default : goal.returns-in_default
returns-in_default g c = record {
  finds = λ s table i j x same of_left of_right.
      overflow_found s table c.args.name i j x c.args.site same
      (ap (λ b. b && (right_of s table (clause_of c.args.name) i j x).fits) (sym of_left.there ∙ ap is_some c.in_default.is));
}

pub returns-in_default-right : goal.returns-in_default-right
returns-in_default-right g c = record {
  finds = λ s table i j x same of_left of_right.
      overflow_found s table c.args.name i j x c.args.site same
      (and_false (left_of s table (clause_of c.args.name) i j x).fits (right_of s table (clause_of c.args.name) i j x).fits
      (sym of_right.there ∙ ap is_some c.in_default-right.is));
}

pub returns-then-is_same : goal.returns-then-is_same
returns-then-is_same g c = record {
  finds = λ s table i j x same of_left of_right.
      nothing_found s table c.args.name i j x c.in-Some.left c.in-Some-right.right
      (subst (Forms (left_of s table (clause_of c.args.name) i j x)) c.in-Some.is of_left)
      (subst (Forms (right_of s table (clause_of c.args.name) i j x)) c.in-Some-right.is of_right) (sym c.is_same.ensures.same ∙ c.if-is_same.true);
}

pub returns : goal.returns
returns g c = record {
  finds = λ s table i j x same of_left of_right.
      difference_found s table c.args.name i j x c.in-Some.left c.in-Some-right.right
      (subst (Forms (left_of s table (clause_of c.args.name) i j x)) c.in-Some.is of_left)
      (subst (Forms (right_of s table (clause_of c.args.name) i j x)) c.in-Some-right.is of_right) c.args.site same
      (sym c.is_same.ensures.same ∙ c.if-is_same.false);
}
