-- Conjugates that are 0, and sites of numerators.
use Rattle.modular_st.proofs.Names.{◌≡◌, ◌+◌, ◌*◌, ◌<◌, ◌==◌, ℕ, false, refl, sym, subst, arith, class_of, conjugated, SimplesOver, count, class_at, full_character, s_sum, row_fits, IsNought, unless_so, conjugate_of_nought, s_site, IsOverflow}
use Rattle.qd_ring.specs.declared.site.Site.{Site}

-- a place among the pairs
pub pair_below : (i m g n : ℕ) → i < m → g < n → i * n + g < m * n
pair_below i m g n first second = omega (arith, second, row_fits i n m n first (omega arith))

module _ (k : ℕ) (s : SimplesOver) where
  -- the conjugate is 0 outside of the class
  pub other_class : (i g h : ℕ) → (class_of s.cocycle.group g == class_at k s i) ≡ false → IsNought (conjugated k (full_character k s i g h))
  other_class i g h other = conjugate_of_nought k (full_character k s i g h) (unless_so k (class_of s.cocycle.group g == class_at k s i) _ other)

  -- the site of a numerator that overflows
  pub overflow_at : (i j : ℕ) (site : Site) → site ≡ s_site i j → i < count k s → j < count k s → (s_sum k s i j).fits ≡ false → IsOverflow k s site
  overflow_at i j site same i_below j_below unfit =
      subst (IsOverflow k s) (sym same) (record { i_below = i_below; j_below = j_below; site_is = refl; overflows = unfit })
