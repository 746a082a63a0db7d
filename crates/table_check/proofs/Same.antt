-- Values are the same exactly where their coefficients are.
use Rattle.table_check.proofs.Names.{◌≡◌, ℕ, refl, ap, Decides, Value, is_same}
use Rattle.std.proofs.lemmas.Bool.Decides.{Decides-int_eq}
use Rattle.std.proofs.lemmas.Slice.Eq.{slice_eq-Decides}
use Rattle.cyclotomic.specs.Laws.Values.{same_value}

pub is_same-Decides : {n : ℕ} (u v : Value n) → Decides (is_same u v) (u ≡ v)
is_same-Decides u v = (
  λ same. same_value u v ((coefficients u v).0 same),
  λ equal. (coefficients u v).1 (ap (λ w. w.coefficients) equal),
)
  where
    coefficients : {n : ℕ} (u v : Value n) → Decides (is_same u v) (u.coefficients ≡ v.coefficients)
    coefficients u v = slice_eq-Decides Decides-int_eq u.coefficients v.coefficients (is_same u v) refl
