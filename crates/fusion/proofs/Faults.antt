-- Fusion sums that are whole, and the first that isn't.
use Rattle.fusion.proofs.Names.{◌≡◌, ℕ, ◌*◌, ◌<◌, Option, Some, None, refl, sym, ◌∙◌, ap, is_some, if◌then◌else◌, whole, SimplesOver, count, fusion_sum, IsFusionNumber, unwrap_or, first_found, first_none-at, quotient_at, fusion_number, sum_fault, pair_fault, simple_fault, whole_fault, SumsBeforeAreWhole}
use Rattle.fusion.proofs.Quotients.{quotient_means}

module _ (k : ℕ) (s : SimplesOver) where
  -- where there is a quotient, there is no fault
  pub no_fault : (i j l v : ℕ) → quotient_at k s i j l ≡ Some v → sum_fault k s i j l ≡ None
  no_fault i j l v found = ap (λ (o : Option ℕ). if is_some o then None else Some (i, j, l)) found

  fault_here : (i j l : ℕ) → quotient_at k s i j l ≡ None → sum_fault k s i j l ≡ Some (i, j, l)
  fault_here i j l none = ap (λ (o : Option ℕ). if is_some o then None else Some (i, j, l)) none

  -- the first fault of all
  pub first_fault : (i j l : ℕ) → i < count k s → j < count k s → l < count k s → SumsBeforeAreWhole k s i j l → quotient_at k s i j l ≡ None → whole_fault k s ≡ Some (i, j, l)
  first_fault i j l i_below j_below l_below before none =
      first_found (count k s) i (simple_fault k s) (i, j, l) i_below before.pairs.lesser_first
      (first_found (count k s) j (pair_fault k s i) (i, j, l) j_below before.pairs.lesser_second
      (first_found (count k s) l (sum_fault k s i j) (i, j, l) l_below before.lesser_third (fault_here i j l none)))

  -- where there is no fault, the number is that of the fusion sum
  pub number_of : (i j l : ℕ) → sum_fault k s i j l ≡ None → IsFusionNumber k s i j l (fusion_number k s i j l)
  number_of i j l none = by (quotient_at k s i j l) refl
    where
      by : (o : Option ℕ) → quotient_at k s i j l ≡ o → IsFusionNumber k s i j l (fusion_number k s i j l)
      by (Some v) found =
          quotient_means k s.cocycle.group.order (fusion_sum k s i j l).value v found
          ∙ ap (λ (o : Option ℕ). whole k (s.cocycle.group.order * unwrap_or o 0)) (sym found)
      by None missing = absurd (let wrong : None ≡ Some (i, j, l) = sym none ∙ fault_here i j l missing in cc)

  pub number_found : (i j l v : ℕ) → quotient_at k s i j l ≡ Some v → fusion_number k s i j l ≡ v
  number_found i j l v found = ap (λ (o : Option ℕ). unwrap_or o 0) found

  -- where a pair has no fault, its numbers are those of its fusion sums
  pub pair_numbers_of : (i j : ℕ) → pair_fault k s i j ≡ None → (l : ℕ) → l < count k s → IsFusionNumber k s i j l (fusion_number k s i j l)
  pair_numbers_of i j none l below = number_of i j l (first_none-at (count k s) l (sum_fault k s i j) none below)

  -- where there is no fault at all
  pub pair_whole : whole_fault k s ≡ None → (i j : ℕ) → i < count k s → j < count k s → pair_fault k s i j ≡ None
  pair_whole none i j i_below j_below =
      first_none-at (count k s) j (pair_fault k s i) (first_none-at (count k s) i (simple_fault k s) none i_below) j_below
