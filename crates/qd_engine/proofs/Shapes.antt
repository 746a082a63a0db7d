-- Blocks have no fault exactly where they match the classes.
use Rattle.qd_engine.proofs.Names.{◌≡◌, ℕ, Bool, true, false, cond, List, length, Option, Some, None, refl, ◌==◌, eqb-true, eq-eqb, or_none, first_none, first_none-at, option_or, Table, Block, block_at, IsMatched}
use Rattle.data_print.specs.declared.cause.ShapeFault.{ShapeFault}
use Rattle.data_print.specs.declared.cause.ShapeFault.TheVariants.{Blocks, Representative, Width}
use Rattle.qd_engine.specs.Shape.{unless_same, representative_fault_at, width_fault_in, width_fault_at, shape_fault}

none_where : (same : Bool) (fault : ShapeFault) → cond same None (Some fault) ≡ None → same ≡ true
none_where true fault e = refl
none_where false fault e = absurd cc

-- no fault means the same number
same_number : (given wanted : ℕ) (fault : ℕ → ℕ → ShapeFault) → unless_same given wanted fault ≡ None → given ≡ wanted
same_number given wanted fault e = eqb-true given wanted (none_where (given == wanted) (fault given wanted) e)

pub shape_matches : (t : Table) (blocks : List Block) → shape_fault t blocks ≡ None → IsMatched t blocks
unfolding shape_fault
shape_matches t blocks e =
    let (count, more) = or_none _ _ e in
    let (representatives, widths) = or_none _ _ more in
    record {
      count = same_number _ _ Blocks count;
      representative = λ b below. same_number _ _ (Representative b) (first_none-at _ b (representative_fault_at t blocks) representatives below);
      width = λ b r below row.
          same_number _ _ (Width b r)
          (first_none-at _ r (width_fault_at t blocks b) (first_none-at _ b (width_fault_in t blocks) widths below) row);
    }

-- the same number has no fault
no_fault : (given wanted : ℕ) (fault : ℕ → ℕ → ShapeFault) → given ≡ wanted → unless_same given wanted fault ≡ None
no_fault given wanted fault same = rw (eq-eqb given wanted same) refl

both_none : {A : Type 0} (front last : Option A) → front ≡ None → last ≡ None → option_or front last ≡ None
both_none front last first_is last_is = rw (first_is, last_is) refl

pub matched_no_fault : (t : Table) (blocks : List Block) → IsMatched t blocks → shape_fault t blocks ≡ None
unfolding shape_fault
matched_no_fault t blocks matched =
    both_none _ _ (no_fault _ _ Blocks matched.count)
    (both_none _ _
    (first_none (length blocks) (representative_fault_at t blocks) (λ b below. no_fault _ _ (Representative b) (matched.representative b below)))
    (first_none (length blocks) (width_fault_in t blocks)
    (λ b below. first_none (length (block_at blocks b).rows) (width_fault_at t blocks b) (λ r row. no_fault _ _ (Width b r) (matched.width b r below row)))))
