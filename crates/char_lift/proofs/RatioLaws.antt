-- Class numbers, class factors and character ratios.
use Rattle.char_lift.proofs.Names.{◌≡◌, ℕ, ◌*◌, ◌%◌, ◌<◌, List, length, true, false, Bool, Option, Some, None, refl, ap, ◌∙◌, arith, mod-lt, ◌==◌, slice_index, unwrap_or, if◌then◌else◌, first, first_some, representative_of, TwistedSubgroup, size, rank, where_found, AreBelow, regular_number, class_factor, character_ratio, character_ratios, inverse_residue, class_size, inverse_root, carrying_phase, length-tabulated}
use Rattle.twisted.specs.Regular.{is_regular, regular_representatives}
use Rattle.twisted.proofs.Representatives.{length-regular_representatives}
use Rattle.char_lift.proofs.SumLaws.{tabulated-below}

module _ (s : TwistedSubgroup) where
  number_at : ℕ → ℕ → Option ℕ
  number_at y t = if slice_index (regular_representatives s) t == representative_of s.group y then Some t else None

  within : (y n : ℕ) (o : Option ℕ) → first n (number_at y) ≡ o → 0 < n → unwrap_or o 0 < n
  unfolding number_at
  within y n None e some = some
  within y n (Some t) e some =
      let f = first_some n (number_at y) t e in
      let here = where_found (slice_index (regular_representatives s) f.place == representative_of s.group y) f.place t f.here in
      omega (arith, f.below, here.1)

  pub number_below : 0 < rank s → (y : ℕ) → regular_number s y < rank s
  unfolding regular_number number_at
  number_below some y = within y (rank s) (first (rank s) (number_at y)) refl some

  -- the number as it is looked for
  pub number_found : (y r n : ℕ) (places : List ℕ) → places ≡ regular_representatives s → r ≡ representative_of s.group y → n ≡ length places
      → unwrap_or (first n (λ t. if slice_index places t == r then Some t else None)) 0 ≡ regular_number s y
  unfolding regular_number
  number_found y r n places are representative count =
      ap (λ v. unwrap_or (first n (λ t. if slice_index places t == v then Some t else None)) 0) representative
      ∙ ap (λ xs. unwrap_or (first n (λ t. if slice_index xs t == representative_of s.group y then Some t else None)) 0) are
      ∙ ap (λ m. unwrap_or (first m (λ t. if slice_index (regular_representatives s) t == representative_of s.group y then Some t else None)) 0)
      (count ∙ ap length are ∙ length-regular_representatives s)

  module _ (q k z : ℕ) (positive : 0 < q) where
    below_of : (b : Bool) (a : ℕ) → (if b then a % q else 0) < q
    below_of true a = mod-lt a positive
    below_of false a = positive

    pub factor_below : (y : ℕ) → class_factor s q k z y < q
    unfolding class_factor
    factor_below y = below_of (is_regular s y) (inverse_residue q (class_size s y) * inverse_root s q k z (carrying_phase s y))

    pub ratios_width : (w : ℕ → ℕ) → length (character_ratios s q k z w) ≡ size s
    ratios_width w = length-tabulated (size s) (character_ratio s q k z w)

    pub ratios_below : (w : ℕ → ℕ) → AreBelow q (character_ratios s q k z w)
    ratios_below w = tabulated-below q (size s) (character_ratio s q k z w) (λ y h. mod-lt (w (regular_number s y) * class_factor s q k z y) positive)
