-- Exponents that meet the plain laws of a normalised 3-cocycle break no law.
use Rattle.cochain.proofs.Names.{◌≡◌, ℕ, ◌+◌, ◌*◌, ◌%◌, ◌<◌, ◌⊎◌, inl, inr, Bool, true, false, ◌||◌, nat_eq, length, None, refl, sym, ap, ◌∙◌, mod-lt, mod-mod, mod-eq_of_lt, eq-eqb, eqb-true, get_or-map, length-map, first_none, Same, same_sym, same_trans, same_mod, same_add, Table, product, identity_of, IsGroup, IsSmall, no_fault, where_asked, closed, identity_below, IsLawful, CocycleExactly, NotNormalised, NotCocycle}
use Rattle.cochain.specs.Cochain.{Cochain, exponents_by, cochain_of, value, has_identity, is_normal_at, normal_fault, is_closed_at, closure_fault, cocycle_fault, IsRoots, IsCocycle}
use Rattle.cochain.proofs.Sentences.{value_below, first_one, second_one, third_one, closed_at}
use Rattle.cochain.proofs.Cube.{cube_below}
use Rattle.cochain.proofs.Formula.{exponent_at, length-exponents_by}

one_of : (a b c : Bool) → (a || b || c) ≡ true → (a ≡ true) ⊎ ((b ≡ true) ⊎ (c ≡ true))
one_of true b c e = inl refl
one_of false true c e = inr (inl refl)
one_of false false c e = inr (inr e)

-- exponents that are reduced and meet the laws break none
module _ (w : Cochain) (L : IsLawful w.group.order (product w.group) (identity_of w.group) w.roots (value w))
    (reduced : (g h k : ℕ) → g < w.group.order → h < w.group.order → k < w.group.order → value w g h k % w.roots ≡ value w g h k) where
  abbrev n : ℕ
  n = w.group.order

  abbrev e : ℕ
  e = identity_of w.group

  normal_at : (g h k : ℕ) → g < n → h < n → k < n → has_identity w g h k ≡ true → value w g h k ≡ 0
  normal_at g h k p q r one =
      sym (reduced g h k p q r)
      ∙ elim (one_of (nat_eq g e) (nat_eq h e) (nat_eq k e) one) [
        | inl here ↦ rw (eqb-true g e here) (L.first h k q r)
        | inr (inl here) ↦ rw (eqb-true h e here) (L.second g k p r)
        | inr (inr here) ↦ rw (eqb-true k e here) (L.third g h p q)
      ]

  normal : normal_fault w ≡ None
  normal =
      first_none n _
      (λ g p. first_none n _ (λ h q. first_none n _ (λ k r.
      no_fault (is_normal_at w g h k) (NotNormalised g h k)
      (where_asked (has_identity w g h k) (nat_eq (value w g h k) 0) (λ one. eq-eqb _ _ (normal_at g h k p q r one))))))

  closure : closure_fault w ≡ None
  closure =
      first_none n _
      (λ g p. first_none n _ (λ h q. first_none n _ (λ k r. first_none n _ (λ l s.
      no_fault (is_closed_at w g h k l) (NotCocycle g h k l) (eq-eqb _ _ (L.closed g h k l p q r s).same)))))

  breaks_none : cocycle_fault w ≡ None
  unfolding cocycle_fault
  breaks_none = rw (normal, closure) refl

-- a cochain is a normalised 3-cocycle exactly where its exponents meet the plain laws
pub cocycle_exactly : CocycleExactly
cocycle_exactly w C =
    let e_below = identity_below w.group C.group in
    let reduced : (g h k : ℕ) → g < w.group.order → h < w.group.order → k < w.group.order → value w g h k % w.roots ≡ value w g h k =
    λ g h k p q r. mod-eq_of_lt (value_below w C g h k p q r) in (
      λ W. record {
        first = λ h k q r. reduced _ h k e_below q r ∙ first_one w W h k q r e_below;
        second = λ g k p r. reduced g _ k p e_below r ∙ second_one w W g k p r e_below;
        third = λ g h p q. reduced g h _ p q e_below ∙ third_one w W g h p q e_below;
        closed = λ g h k l p q r s. record { same = closed_at w W g h k l p q r s };
      },
      λ L. record { cochain = C; lawful = breaks_none w L reduced },
    )

-- exponents by a formula
module _ (t : Table) (T : IsGroup t) (roots : ℕ) (at : ℕ → ℕ → ℕ → ℕ) where
  abbrev formula : Cochain
  formula = cochain_of t roots (exponents_by t.order at)

  pub value_by : (g h k : ℕ) → g < t.order → h < t.order → k < t.order → value formula g h k ≡ at g h k % roots
  value_by g h k p q r =
      let n = t.order in
      let place = (g * n + h) * n + k in
      let inside : place < length (exponents_by n at) = rw (length-exponents_by n at) (cube_below n g h k p q r) in
      get_or-map (λ v. v % roots) (exponents_by n at) place 0 0 inside ∙ ap (λ v. v % roots) (exponent_at n g h k at p q r)

  same_value : (g h k : ℕ) → g < t.order → h < t.order → k < t.order → Same roots (value formula g h k) (at g h k)
  same_value g h k p q r = rw (value_by g h k p q r) (same_mod roots (at g h k))

  -- exponents that meet the plain laws break none
  pub lawful : IsLawful t.order (product t) (identity_of t) roots at → cocycle_fault formula ≡ None
  lawful L =
      let e_below = identity_below t T in
      breaks_none formula
      (record {
        first = λ h k q r. (same_value _ h k e_below q r).same ∙ L.first h k q r;
        second = λ g k p r. (same_value g _ k p e_below r).same ∙ L.second g k p r;
        third = λ g h p q. (same_value g h _ p q e_below).same ∙ L.third g h p q;
        closed = λ g h k l p q r s.
            let hk = closed t h k T q r in
            let gh = closed t g h T p q in
            let kl = closed t k l T r s in
            same_trans (same_add (same_add (same_value g h k p q r) (same_value g (product t h k) l p hk s)) (same_value h k l q r s))
            (same_trans (L.closed g h k l p q r s) (same_sym (same_add (same_value (product t g h) k l gh r s) (same_value g h (product t k l) p q kl))));
      })
      (λ g h k p q r. rw (value_by g h k p q r) (mod-mod (at g h k) roots))

  -- those that break none are a normalised 3-cocycle
  pub is_cocycle : IsSmall t.order → IsRoots roots → cocycle_fault formula ≡ None → IsCocycle formula
  is_cocycle small few lawful = record {
    cochain = record {
      group = T;
      small = small;
      number = few;
      cube = length-map (exponents_by t.order at) (λ (v : ℕ). v % roots) ∙ length-exponents_by t.order at;
      below = λ i p.
          let inside : i < length (exponents_by t.order at) = rw (← length-map (exponents_by t.order at) (λ (v : ℕ). v % roots)) p in
          rw (get_or-map (λ v. v % roots) (exponents_by t.order at) i 0 0 inside) (mod-lt _ few.from_one);
    };
    lawful = lawful;
  }
