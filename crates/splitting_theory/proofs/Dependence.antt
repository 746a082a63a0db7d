-- More rows than their width are dependent, over a field (textbook).
use Rattle.algebra.proofs.Columns.{columns, IsNoughtBelow, nought_stable, units, length_units, units_reach}
use Rattle.algebra.proofs.Dependence.{combination, relation}
use Rattle.splitting_theory.proofs.Names.{◌≡◌, ℕ, zero, suc, sym, ◌∙◌, ap, arith, CommRing, sum_below, sum_zero, sum_suc, Field, AreDependent}

module _ {A : Type 0} (F : CommRing A) (L : Field F) where
  combination_at : (n w : ℕ) (a : ℕ → ℕ → A) (c : ℕ → A) (x : ℕ → ℕ → A) (k : ℕ) → combination (columns F w a) n c x k ≡ sum_below F n (λ i. F.mul (c i) (x i k))
  unfolding combination
  combination_at zero w a c x k = sym (sum_zero F (λ i. F.mul (c i) (x i k)))
  combination_at (suc n) w a c x k =
      ap (λ s. F.add s (F.mul (c n) (x n k))) (combination_at n w a c x k) ∙ sym (sum_suc F n (λ i. F.mul (c i) (x i k)))

  -- more rows than their width are dependent
  pub dependent : (r : ℕ) (x : ℕ → ℕ → A) → AreDependent F r x
  dependent r x =
      let T = columns F r (λ i j. F.nought) in
      let stable = nought_stable F r (λ i j. F.nought) in
      let found = relation L T r (IsNoughtBelow F r) (record { plus = stable.plus; scale = stable.scale }) (units F r) (length_units F r)
      (λ v. units_reach F r (λ i j. F.nought) r v (λ i h l. absurd (omega arith))) x in
      record {
        coefficient = found.coefficient;
        place = found.place;
        place_below = found.place_below;
        there = found.there;
        none = λ k h. sym (combination_at (suc r) r (λ i j. F.nought) found.coefficient x k) ∙ found.inside k h;
      }
