-- What an equation finds at a place.
use Rattle.table_check.proofs.Names.{◌≡◌, ℕ, ◌&&◌, Bool, true, false, Some, None, refl, ap, ◌∙◌, cyclotomic_value, Cyc, TwistedSubgroup, Forms, Characters, is_same, unless_holds, clause_of, left_of, right_of, site_of, fit_at, equation_miss, Finds, Clause, Miss}
use Rattle.qd_ring.specs.declared.site.Site.{Site}
use Rattle.table_check.specs.Answers.{is_twist}
use Rattle.table_check.specs.declared.identity_name.IdentityName.{IdentityName}
use Rattle.table_check.specs.declared.identity_name.IdentityName.TheVariants as names
use Rattle.table_check.specs.declared.refusal.TableRefusal.TheVariants.{Overflow, Identity}

no_twist : (name : IdentityName) → is_twist (clause_of name) ≡ false
no_twist names.Degree = refl
no_twist names.Unitary = refl
no_twist names.Central = refl
no_twist names.Product = refl
no_twist names.Sum = refl
no_twist names.Column = refl

-- a clause whose test fails is missed
pub missed_at : (test : Bool) (clause : Clause) (i j x : ℕ) → test ≡ false
    → unless_holds test clause i j x ≡ Some (record { clause = clause; i = i; j = j; x = x })
missed_at test clause i j x fails = rw fails refl

module _ {k : ℕ} (s : TwistedSubgroup) (table : Characters k) (name : IdentityName) (i j x : ℕ) where
  abbrev here : Miss
  here = record { clause = clause_of name; i = i; j = j; x = x }

  fit_here : fit_at s table here ≡ ((left_of s table (clause_of name) i j x).fits && (right_of s table (clause_of name) i j x).fits)
  fit_here = rw (no_twist name) refl

  -- a side overflows
  pub overflow_found : (site : Site) → site ≡ site_of s here
      → ((left_of s table (clause_of name) i j x).fits && (right_of s table (clause_of name) i j x).fits) ≡ false
      → Finds s table (equation_miss s table (clause_of name) i j x) (Some (Overflow site))
  overflow_found site same fit = (here, rw fit refl, (fit_here ∙ fit, same))

  module _ (left right : Cyc k) (of_left : Forms (left_of s table (clause_of name) i j x) (Some left))
      (of_right : Forms (right_of s table (clause_of name) i j x) (Some right)) where
    -- the sides differ
    pub difference_found : (site : Site) → site ≡ site_of s here
        → is_same (cyclotomic_value k left.coefficients) (cyclotomic_value k right.coefficients) ≡ false
        → Finds s table (equation_miss s table (clause_of name) i j x) (Some (Identity name site.i site.j site.x left right))
    difference_found site same differ = (
      here,
      rw (← of_left.there, ← of_right.there, ← of_left.stands, ← of_right.stands, differ) refl,
      (
        fit_here ∙ rw (← of_left.there, ← of_right.there) refl,
        record {
          clause = refl;
          row = ap (λ t. t.i) same;
          second = ap (λ t. t.j) same;
          third = ap (λ t. t.x) same;
          left_side = of_left.stands;
          right_side = of_right.stands;
        },
      ),
    )

    -- they are the same
    pub nothing_found : is_same (cyclotomic_value k left.coefficients) (cyclotomic_value k right.coefficients) ≡ true
        → Finds s table (equation_miss s table (clause_of name) i j x) None
    nothing_found same = rw (← of_left.there, ← of_right.there, ← of_left.stands, ← of_right.stands, same) refl
