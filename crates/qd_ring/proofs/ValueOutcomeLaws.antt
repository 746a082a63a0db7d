-- What a text is read as is determined.
use Rattle.qd_ring.proofs.Names.{add-sub_cancel_left, ◌≡◌, ℕ, ◌+◌, ◌-◌, take, drop, subst, ◌≤◌, true, false, List, Result, Ok, Err, refl, ap, sym, ◌∙◌, ℤ, ◌↔◌, true≢false, false≢true, is_small, Spells}
use Rattle.qd_ring.specs.declared.plain.Plain.{Plain}
use Rattle.qd_ring.specs.declared.plain.ValueFault.{ValueFault}
use Rattle.qd_ring.specs.declared.plain.ValueFault.TheVariants.{NotValue, Wide}
use Rattle.qd_ring.specs.ValueOutcome.{IsRead}
use Rattle.qd_ring.proofs.ValueLaws.{agree_small, agree_equal}

module _ (text : List ℕ) (phi : ℕ) (small : phi ≤ 42) where
  -- small coefficients are read back
  pub outcome_value : (r : Result Plain ValueFault) → IsRead text phi r → (cs : List ℤ) → Spells text phi cs → is_small cs ≡ true → r ≡ Ok (record { coefficients = cs })
  outcome_value (Ok p) h cs s few = ap (λ ds. Ok (record { coefficients = ds })) (agree_equal text phi small p.coefficients cs h.0 s h.1)
  outcome_value (Err Wide) h cs s few = absurd (false≢true (sym h.2 ∙ agree_small text phi small h.0 cs h.1 s ∙ few))
  outcome_value (Err NotValue) h cs s few = absurd (h cs s)

  pub outcome_wide : (r : Result Plain ValueFault) → IsRead text phi r → (r ≡ Err Wide) ↔ ((cs : List ℤ) × Spells text phi cs × (is_small cs ≡ false))
  outcome_wide (Ok p) h = (λ e. absurd (cc e), λ w. absurd (true≢false (sym h.1 ∙ agree_small text phi small p.coefficients w.0 h.0 w.1 ∙ w.2)))
  outcome_wide (Err Wide) h = (λ e. h, λ w. refl)
  outcome_wide (Err NotValue) h = (λ e. absurd (cc e), λ w. absurd (h w.0 w.1))

  pub outcome_not_value : (r : Result Plain ValueFault) → IsRead text phi r → (r ≡ Err NotValue) ↔ ((cs : List ℤ) → Spells text phi cs → ⊥)
  outcome_not_value (Ok p) h = (λ e. absurd (cc e), λ none. absurd (none p.coefficients h.0))
  outcome_not_value (Err Wide) h = (λ e. absurd (cc e), λ none. absurd (none h.0 h.1))
  outcome_not_value (Err NotValue) h = (λ e. h, λ none. refl)

-- a part of bytes, by its end or by its length
pub part_read : (phi start len : ℕ) (bytes whole : List ℕ) (r : Result Plain ValueFault) → bytes ≡ whole → IsRead (take (start + len - start) (drop start bytes)) phi r → IsRead (take len (drop start whole)) phi r
part_read phi start len bytes whole r e h =
    subst (λ n. IsRead (take n (drop start whole)) phi r) (add-sub_cancel_left start len) (subst (λ b. IsRead (take (start + len - start) (drop start b)) phi r) e h)
