-- Samples are normalised 3-cocycles: the numbers that they are gauged by are 0 at the pairs with the identity.
use Rattle.named_cocycles.proofs.Names.{◌≡◌, ℕ, ◌+◌, ◌*◌, ◌/◌, ◌%◌, ◌<◌, Bool, true, false, ◌||◌, nat_eq, cond, List, None, Some, Result, Ok, Err, refl, sym, ap, subst, ◌∙◌, arith, lit≤, lit<, zero-mod, eq-eqb, get_or-map-range_with_len, first_none, no_fault, where_asked, identity_of, dicyclic_group, table_group, dicyclic_below, Cochain, IsCocycle, trivial_cocycle, type_two_cocycle, type_three_cocycle, TypeTwo, TypeThree, reflections_cocycle, sample_base, has_identity, gauge_number, gauge_numbers, sample_cocycle}
use Rattle.std.specs.Prelude.{slice_index, IfOk}
use Rattle.std.proofs.lemmas.Nat.{div-mul-add, mod-mul-add}
use Rattle.group_table.proofs.Square.{place_below}
use Rattle.cochain.specs.Gauge.{pair_value, is_normal_pair, gauge_fault, gauged, RefusesGauge}
use Rattle.cochain.specs.declared.fault.GaugeRefusal.{GaugeRefusal}
use Rattle.cochain.specs.declared.fault.GaugeRefusal.TheVariants.{NotNormal}
use Rattle.cochain.proofs.Gauged.{gauged_is_cocycle}
use Rattle.named_cocycles.proofs.Named.{is_small, plain, reflections, made_is_cocycle}

module _ (w : Cochain) (s : ℕ) where
  -- the number of a pair stands at its place
  at_pair : (g h : ℕ) → g < w.group.order → h < w.group.order → slice_index (gauge_numbers w s) (g * w.group.order + h) ≡ gauge_number w s (g * w.group.order + h)
  at_pair g h p q =
      let n = w.group.order in
      get_or-map-range_with_len (gauge_number w s) 0 (n * n) (g * n + h) (g * n + h) 0 (place_below n g h p q) (omega arith)

  nought_at_identity : (g h : ℕ) → g < w.group.order → h < w.group.order → (nat_eq g (identity_of w.group) || nat_eq h (identity_of w.group)) ≡ true
      → pair_value w (gauge_numbers w s) g h ≡ 0
  nought_at_identity g h p q one =
      let n = w.group.order in
      let here : has_identity w.group (g * n + h) ≡ true = rw (div-mul-add g n h q, mod-mul-add g n h q) one in
      let nought : gauge_number w s (g * n + h) ≡ 0 = rw here refl in
      rw (at_pair g h p q, nought) (zero-mod w.roots)

  pub numbers_normal : gauge_fault w (gauge_numbers w s) ≡ None
  numbers_normal =
      let n = w.group.order in
      let b = gauge_numbers w s in
      let e = identity_of w.group in
      first_none n _ (λ g p. first_none n _ (λ h q.
      no_fault (is_normal_pair w b g h) (NotNormal g h)
      (where_asked (nat_eq g e || nat_eq h e) (nat_eq (pair_value w b g h) 0) (λ one. eq-eqb _ _ (nought_at_identity g h p q one)))))

quaternions : IsCocycle (trivial_cocycle (dicyclic_group 2) 2)
quaternions = plain (dicyclic_group 2) 2 (table_group _ _ _ (dicyclic_below 2 (lit< tt))) (is_small 8 refl) (record { from_one = lit≤ tt; to_most = lit≤ tt })

pub base_is_cocycle : (s : ℕ) → IsCocycle (sample_base s)
base_is_cocycle s = by (nat_eq (s % 4) 0) (nat_eq (s % 4) 1) (nat_eq (s % 4) 2)
  where
    by : (first second third : Bool) → IsCocycle (cond first (type_three_cocycle 2 2 2 1) (cond second (reflections_cocycle 3) (cond third (trivial_cocycle (dicyclic_group 2) 2) (type_two_cocycle 4 2 1))))
    by true second third = made_is_cocycle (TypeThree 2 2 2 1) refl
    by false true third = reflections 3 (is_small 6 refl)
    by false false true = quaternions
    by false false false = made_is_cocycle (TypeTwo 4 2 1) refl

pub sample_is_cocycle : (s : ℕ) → IsCocycle (sample_cocycle s)
sample_is_cocycle s = gauged_is_cocycle (sample_base s) (gauge_numbers (sample_base s) s) (base_is_cocycle s) (numbers_normal (sample_base s) s)

-- ---- what the code makes

-- what is found to be one thing is another that it is the same as
pub ok_is : {E : Type 0} (result : Result Cochain E) (P : Type 0) (w other : Cochain) → w ≡ other → IfOk result (λ made. P × (made ≡ w)) → IfOk result (λ made. made ≡ other)
ok_is (Ok made) P w other same is = is.1 ∙ same
ok_is (Err refusal) P w other same is = tt

pub base_zero : (s : ℕ) → s % 4 ≡ 0 → type_three_cocycle 2 2 2 1 ≡ sample_base s
base_zero s e = rw e refl

pub base_one : (s : ℕ) → s % 4 ≡ 1 → reflections_cocycle 3 ≡ sample_base s
base_one s e = rw e refl

pub base_two : (s : ℕ) → s % 4 ≡ 2 → trivial_cocycle (dicyclic_group 2) 2 ≡ sample_base s
base_two s e = rw e refl

pub base_three : (s : ℕ) → s % 4 ≡ 3 → type_two_cocycle 4 2 1 ≡ sample_base s
base_three s e = rw e refl

pub sample_is : (s : ℕ) (base w : Cochain) (numbers : List ℕ) → base ≡ sample_base s → numbers ≡ gauge_numbers base s → w ≡ gauged base numbers → w ≡ sample_cocycle s
sample_is s base w numbers based numbered is = is ∙ ap (gauged base) numbered ∙ ap (λ (b : Cochain). gauged b (gauge_numbers b s)) based

pub never_refused : (s g h : ℕ) (base : Cochain) (numbers : List ℕ) (refusal : GaugeRefusal) → numbers ≡ gauge_numbers base s → refusal ≡ NotNormal g h
    → RefusesGauge refusal (gauge_fault base numbers) → ⊥
never_refused s g h base numbers refusal numbered is refused =
    let fault : gauge_fault base numbers ≡ Some (NotNormal g h) = subst (λ r. RefusesGauge r (gauge_fault base numbers)) is refused in
    let none : gauge_fault base numbers ≡ None = rw numbered (numbers_normal base s) in
    let wrong = sym none ∙ fault in
    cc
