-- What a degree is.
use Rattle.char_lift.proofs.Names.{◌≡◌, ℕ, ◌+◌, ◌*◌, ◌%◌, ◌≤◌, true, Option, Some, None, sym, subst, eqb-true, ◌==◌, IfSome, if◌then◌else◌, first_some, where_found, ◌&&◌, nat_le, leb-true, and_true, is_degree, least_degree}

pub record IsDegree (q m t d : ℕ) : Type 0 where
  pub from_one : 1 ≤ d
  pub square : d * d ≤ m
  pub fits : (d * d * t) % q ≡ m % q

of_test : (q m t d : ℕ) → is_degree q m t d ≡ true → IsDegree q m t d
of_test q m t d e =
    let both = and_true (nat_le 1 d && nat_le (d * d) m) ((d * d * t) % q == m % q) e in
    let sizes = and_true (nat_le 1 d) (nat_le (d * d) m) both.0 in
    record {
      from_one = leb-true 1 d sizes.0;
      square = leb-true (d * d) m sizes.1;
      fits = eqb-true ((d * d * t) % q) (m % q) both.1;
    }

pub degree_means : (q m t d : ℕ) → least_degree q m t ≡ Some d → IsDegree q m t d
unfolding least_degree
degree_means q m t d found =
    let f = first_some (m + 1) (λ e. if is_degree q m t e then Some e else None) d found in
    let here = where_found (is_degree q m t f.place) f.place d f.here in
    subst (IsDegree q m t) here.1 (of_test q m t f.place here.0)

pub degree_square : (q m t : ℕ) (o : Option ℕ) → o ≡ least_degree q m t → IfSome o (λ d. d * d ≤ m)
degree_square q m t None e = tt
degree_square q m t (Some d) e = (degree_means q m t d (sym e)).square
