-- The steps of the lift of all classes, and of what comes after it.
use Rattle.qd_steps.proofs.Names.{◌≡◌, ℕ, List, None, sym, ap, ◌∙◌, option_or, Cochain, ModRing, RowsOver, StepRefusal, first_cause, tables_cause, tables_of, lifts_cause, lifted_blocks, modulus_cause, IsRefusalFor}
use Rattle.qd_steps.specs.declared.refusal.StepRefusal.TheVariants as steps
use Rattle.qd_steps.proofs.TableSteps.{same_causes}

module _ (ring : ModRing) (w : Cochain) where
  -- a class that is not lifted goes before any table
  pub lift_goes_first : (answer : StepRefusal) → IsRefusalFor (lifts_cause ring w) answer → IsRefusalFor (modulus_cause ring w) answer
  unfolding modulus_cause
  lift_goes_first steps.Memory refused = tt
  lift_goes_first (steps.Refused cause) refused = ap (λ lift. option_or lift (tables_cause w ring.conductor (lifted_blocks ring w))) refused

  -- where every class is lifted, the cause is that of the tables
  pub tables_decide : (k : ℕ) (tables : List RowsOver) → ring.conductor ≡ k → lifts_cause ring w ≡ None → tables ≡ tables_of w (lifted_blocks ring w) → first_cause k tables ≡ modulus_cause ring w
  unfolding modulus_cause
  tables_decide k tables conductor lifted are =
      ap (first_cause k) are ∙ same_causes w (lifted_blocks ring w) k
      ∙ ap (λ n. tables_cause w n (lifted_blocks ring w)) (sym conductor)
      ∙ ap (λ lift. option_or lift (tables_cause w ring.conductor (lifted_blocks ring w))) (sym lifted)
