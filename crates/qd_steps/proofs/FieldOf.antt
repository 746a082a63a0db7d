-- A field is the one of its modulus and its conductor.
use Rattle.qd_steps.proofs.Names.{◌≡◌, ℕ, ◌%◌, Bool, true, false, Option, Some, None, refl, sym, ap, ◌∙◌, is_conductor, ModRing, eqb-true, ◌==◌, field_by, field_of}
use Rattle.std.proofs.Math.Bool.{Bool-set}
use Rattle.std.proofs.Math.Decide.{ℕ_discrete}
use Rattle.std.proofs.lemmas.Bool.{eqb-false}
use mathlib.Core.HLevel.{Discrete, hedberg, is_prop→PathP, →_prop, ⊥_prop}
use Rattle.prime_field.specs.Moduli.{is_modulus, least_root}

some_same : {x y : ℕ} → Some x ≡ Some y → x ≡ y
some_same e = cc

none_some : {x : ℕ} → None ≡ Some x → ⊥
none_some e = cc

true_false : true ≡ false → ⊥
true_false e = cc

-- two roots that may be there are decidably equal, so that what is said of them is said in one way
root_discrete : Discrete (Option ℕ)
root_discrete None None = yes refl
root_discrete None (Some y) = no (λ e. none_some e)
root_discrete (Some x) None = no (λ e. none_some (sym e))
root_discrete (Some x) (Some y) = elim (ℕ_discrete x y) [
  | yes e ↦ yes (ap Some e)
  | no apart ↦ no (λ e. apart (some_same e))
]

root_set : IsSet (Option ℕ)
root_set = hedberg root_discrete

module _ (ring : ModRing) where
  -- whatever the four answers are
  found_by : (listed entry divides : Bool) (root : Option ℕ) (is_listed : is_modulus ring.q ≡ listed) (is_entry : is_conductor ring.conductor ≡ entry)
      (is_divisor : (ring.conductor % ring.q == 0) ≡ divides) (is_root : least_root ring.q ring.conductor ≡ root)
      → field_by ring.q ring.conductor listed entry divides root is_listed is_entry is_divisor is_root ≡ Some ring
  found_by false entry divides root is_listed is_entry is_divisor is_root = absurd (true_false (sym ring.listed ∙ is_listed))
  found_by true false divides root is_listed is_entry is_divisor is_root = absurd (true_false (sym ring.entry ∙ is_entry))
  found_by true true true root is_listed is_entry is_divisor is_root = absurd (ring.apart (eqb-true (ring.conductor % ring.q) 0 is_divisor))
  found_by true true false None is_listed is_entry is_divisor is_root = absurd (none_some (sym is_root ∙ ring.least))
  found_by true true false (Some z) is_listed is_entry is_divisor is_root =
      let same : z ≡ ring.root = some_same (sym is_root ∙ ring.least) in
      λ i. Some (record {
        q = ring.q;
        conductor = ring.conductor;
        root = same i;
        listed = Bool-set (is_modulus ring.q) true is_listed ring.listed i;
        entry = Bool-set (is_conductor ring.conductor) true is_entry ring.entry i;
        apart = →_prop ⊥_prop (eqb-false (ring.conductor % ring.q) 0 is_divisor) ring.apart i;
        least = is_prop→PathP (λ j. least_root ring.q ring.conductor ≡ Some (same j)) (λ j. root_set (least_root ring.q ring.conductor) (Some (same j))) is_root ring.least i;
      })

pub field_found : (ring : ModRing) → field_of ring.q ring.conductor ≡ Some ring
unfolding field_of
field_found ring = found_by ring (is_modulus ring.q) (is_conductor ring.conductor) (ring.conductor % ring.q == 0) (least_root ring.q ring.conductor) refl refl refl refl
