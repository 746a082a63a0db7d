-- Full characters that are kept.
use Rattle.fusion.proofs.Names.{◌≡◌, ◌+◌, ◌*◌, ◌/◌, ◌<◌, ℕ, List, Option, get_or, sym, ◌∙◌, ap, subst, arith, Vec, Box, div-mul-add, mod-mul-add, class_of, Monomial, SimplesOver, count, class_at, row_fits, IsFullRow, AreFullValues}

-- a place among the pairs
pub pair_below : (i m g n : ℕ) → i < m → g < n → i * n + g < m * n
pair_below i m g n first second = omega (arith, second, row_fits i n m n first (omega arith))

module _ (k : ℕ) (s : SimplesOver) (rows : List (Vec (Option (Box (List Monomial))))) (kept : AreFullValues k s rows) where
  -- the row at its place
  row_kept : (i g : ℕ) (otherwise : Vec (Option (Box (List Monomial)))) → i < count k s → g < s.cocycle.group.order → class_of s.cocycle.group g ≡ class_at k s i
      → IsFullRow k s i g (get_or rows (i * s.cocycle.group.order + g) otherwise).items
  row_kept i g otherwise i_inside g_inside class =
      let n = s.cocycle.group.order in
      let row = get_or rows (i * n + g) otherwise in
      subst (λ a. IsFullRow k s a g row.items) (div-mul-add i n g g_inside)
      (subst (λ b. IsFullRow k s ((i * n + g) / n) b row.items) (mod-mul-add i n g g_inside)
      (kept.each (i * n + g) otherwise (pair_below i (count k s) g n i_inside g_inside)
      (ap (class_of s.cocycle.group) (mod-mul-add i n g g_inside) ∙ class ∙ ap (class_at k s) (sym (div-mul-add i n g g_inside)))))

  -- a row that was read at its place
  pub row_read : (i g : ℕ) (row : Vec (Option (Box (List Monomial)))) → i < count k s → g < s.cocycle.group.order → class_of s.cocycle.group g ≡ class_at k s i
      → row ≡ get_or rows (i * s.cocycle.group.order + g) row → IsFullRow k s i g row.items
  row_read i g row i_inside g_inside class read = subst (λ (r : Vec (Option (Box (List Monomial)))). IsFullRow k s i g r.items) (sym read) (row_kept i g row i_inside g_inside class)
