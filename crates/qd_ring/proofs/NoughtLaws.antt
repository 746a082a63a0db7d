-- Terms that are 0 may be left out of a sum.
use Rattle.qd_ring.proofs.Names.{◌≡◌, ◌+◌, ◌-◌, ◌&&◌, ℕ, Bool, true, false, refl, sym, ◌∙◌, ap, subst, arith, le-leb, ap₂, nought_map, cyclotomic, CyclotomicValue, cyclotomic_ring, conjugate, value_size, value_fits, greatest_magnitude, sum_nought, Value, value_nought, value_sum, image-sum, size-zeros, Formed, conjugated, where_so, IsTotal}
use Rattle.qd_ring.proofs.TotalLaws.{total_more}

-- it fits, and is 0
pub record IsNought {k : ℕ} (u : Formed k) : Type 0 where
  pub fits : u.fits ≡ true
  pub nought : u.value ≡ value_nought

nought_size : {n : ℕ} (u : Value n) → u ≡ value_nought → value_size u ≡ 0
unfolding value_nought
nought_size {n} u none = ap (λ v. value_size v) none ∙ size-zeros n

nought_fits : {n : ℕ} (u : Value n) → u ≡ value_nought → value_fits u ≡ true
unfolding value_fits
nought_fits u none = le-leb (value_size u) greatest_magnitude (omega (arith, nought_size u none))

module _ (k : ℕ) where
  conjugate_nought : conjugate k value_nought ≡ value_nought
  conjugate_nought = nought_map (cyclotomic_ring k) (cyclotomic_ring k) (conjugate k) (image-sum (cyclotomic k) (k - 1))

  -- what isn't so is 0
  pub unless_so : (test : Bool) (u : Formed k) → test ≡ false → IsNought (where_so k test u)
  unless_so test u none = subst (λ b. IsNought (where_so k b u)) (sym none) (record { fits = refl; nought = refl })

  -- what is so is itself
  pub as_so : (test : Bool) (u : Formed k) → test ≡ true → where_so k test u ≡ u
  as_so test u so = ap (λ b. where_so k b u) so

  pub conjugate_of_nought : (u : Formed k) → IsNought u → IsNought (conjugated k u)
  conjugate_of_nought u none =
      let same : conjugate k u.value ≡ value_nought = ap (conjugate k) none.nought ∙ conjugate_nought in
      record { fits = ap₂ (λ a b. a && b) none.fits (nought_fits (conjugate k u.value) same); nought = same }

module _ {k : ℕ} (term : ℕ → Formed k) where
  -- a term that is 0 adds nothing
  pub total_nought : (i : ℕ) (sum : CyclotomicValue k) (sizes : ℕ) → IsTotal term i sum sizes → IsNought (term i) → IsTotal term (i + 1) sum sizes
  total_nought i sum sizes t none =
      let size = nought_size (term i).value none.nought in
      let more = total_more term i sum sizes (term i).value t none.fits refl (omega (arith, size, t.small)) in
      subst (λ a. IsTotal term (i + 1) a sizes) (ap (value_sum sum) none.nought ∙ sum_nought (cyclotomic k) sum)
      (subst (λ m. IsTotal term (i + 1) (value_sum sum (term i).value) m) (omega (arith, size)) more)
