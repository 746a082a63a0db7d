-- The gauged exponents are a normalised 3-cocycle.
use Rattle.cochain.proofs.Names.{◌≡◌, ℕ, ◌+◌, ◌-◌, ◌*◌, ◌%◌, ◌<◌, true, ◌||◌, nat_eq, List, None, refl, sym, ap, ◌∙◌, arith, mod-lt, mul-mod_right, or-true, eq-eqb, eqb-true, passes, asked, first_none-at, Same, same_sym, same_trans, same_add, same_lin, same_multiple, product, identity_of, IsGroup, identity_below, closed, group_below, Cochain, IsCocycle, pair_value, is_normal_pair, gauge_fault, gauged_value, gauged, IsLawful}
use Rattle.cochain.specs.declared.fault.GaugeRefusal.TheVariants.{NotNormal}
use Rattle.cochain.proofs.Sentences.{first_one, second_one, third_one, closed_at}
use Rattle.cochain.proofs.Lawful.{lawful, is_cocycle}

-- the law of the gauged exponents from that of the exponents: the numbers of b cancel
gauge_step : (N v1 v2 v3 v4 v5 h_k g_hk gh_k g_h hk_l g_hkl ghk_l k_l h_kl gh_kl g_hkl' ghk_l' : ℕ)
    → gh_k < N → g_h < N → ghk_l < N → g_hk < N → hk_l < N → h_k < N → gh_kl < N → g_hkl ≡ g_hkl' → ghk_l ≡ ghk_l' → Same N (v1 + v2 + v3) (v4 + v5)
    → Same N
    (v1 + h_k + g_hk + 2 * N - (gh_k + g_h) + (v2 + hk_l + g_hkl + 2 * N - (ghk_l + g_hk)) + (v3 + k_l + h_kl + 2 * N - (hk_l + h_k)))
    (v4 + k_l + gh_kl + 2 * N - (ghk_l' + gh_k) + (v5 + h_kl + g_hkl' + 2 * N - (gh_kl + g_h)))
gauge_step N v1 v2 v3 v4 v5 h_k g_hk gh_k g_h hk_l g_hkl ghk_l k_l h_kl gh_kl g_hkl' ghk_l' p1 p2 p3 p4 p5 p6 p7 e1 e2 law =
    let turns : Same N (6 * N) (4 * N) = same_trans (same_multiple N 6) (same_sym (same_multiple N 4)) in
    same_lin N _ _ (v1 + v2 + v3 + 6 * N) (v4 + v5 + 4 * N) (same_add law turns) (omega arith)

-- where the numbers of b cancel, two whole turns are left
cancelled : (N v x y x' y' : ℕ) → v ≡ 0 → x + y ≡ x' + y' → (v + x + y + 2 * N - (x' + y')) % N ≡ 0
cancelled N v x y x' y' none same =
    ap (λ z. z % N) (let two : v + x + y + 2 * N - (x' + y') ≡ N * 2 = omega arith in two) ∙ mul-mod_right N 2

module _ (w : Cochain) (b : List ℕ) (W : IsCocycle w) (normal : gauge_fault w b ≡ None) where
  abbrev T : IsGroup w.group
  T = W.cochain.group

  abbrev e : ℕ
  e = identity_of w.group

  e_below : e < w.group.order
  e_below = identity_below w.group T

  number_below : (g h : ℕ) → pair_value w b g h < w.roots
  number_below g h = mod-lt _ W.cochain.number.from_one

  pair_normal : (g h : ℕ) → g < w.group.order → h < w.group.order → (nat_eq g e || nat_eq h e) ≡ true → pair_value w b g h ≡ 0
  pair_normal g h p q one =
      let here : is_normal_pair w b g h ≡ true = passes (is_normal_pair w b g h) (NotNormal g h) (first_none-at w.group.order h _ (first_none-at w.group.order g _ normal p) q) in
      eqb-true _ _ (asked (nat_eq g e || nat_eq h e) (nat_eq (pair_value w b g h) 0) here one)

  one_left : (h : ℕ) → h < w.group.order → pair_value w b e h ≡ 0
  one_left h q = pair_normal e h e_below q (rw (eq-eqb e e refl))

  one_right : (g : ℕ) → g < w.group.order → pair_value w b g e ≡ 0
  one_right g p = pair_normal g e p e_below (rw (eq-eqb e e refl, or-true (nat_eq g e)))

  unit_left : (g : ℕ) → g < w.group.order → product w.group e g ≡ g
  unit_left = (group_below w.group T).unit_left

  unit_right : (g : ℕ) → g < w.group.order → product w.group g e ≡ g
  unit_right = (group_below w.group T).unit_right

  laws : IsLawful w.group.order (product w.group) e w.roots (gauged_value w b)
  laws = record {
    first = λ h k q r.
        let same : pair_value w b (product w.group e h) k ≡ pair_value w b h k = ap (λ z. pair_value w b z k) (unit_left h q) in
        cancelled _ _ _ _ _ _ (first_one w W h k q r e_below) (omega (arith, same, one_left (product w.group h k) (closed w.group h k T q r), one_left h q));
    second = λ g k p r.
        let left : pair_value w b g (product w.group e k) ≡ pair_value w b g k = ap (λ z. pair_value w b g z) (unit_left k r) in
        let right : pair_value w b (product w.group g e) k ≡ pair_value w b g k = ap (λ z. pair_value w b z k) (unit_right g p) in
        cancelled _ _ _ _ _ _ (second_one w W g k p r e_below) (omega (arith, left, right, one_left k r, one_right g p));
    third = λ g h p q.
        let same : pair_value w b g (product w.group h e) ≡ pair_value w b g h = ap (λ z. pair_value w b g z) (unit_right h q) in
        cancelled _ _ _ _ _ _ (third_one w W g h p q e_below) (omega (arith, same, one_right (product w.group g h) (closed w.group g h T p q), one_right h q));
    closed = λ g h k l p q r s.
        let front = (group_below w.group T).associative g h k p q r in
        let back = (group_below w.group T).associative h k l q r s in
        let n = number_below in
        gauge_step _ _ _ _ _ _ _ _ _ _ _ _ _ _ _ _ _ _ (n _ _) (n _ _) (n _ _) (n _ _) (n _ _) (n _ _) (n _ _)
        (ap (λ z. pair_value w b g z) back) (ap (λ z. pair_value w b z l) (sym front)) (record { same = closed_at w W g h k l p q r s });
  }

  pub gauged_is_cocycle : IsCocycle (gauged w b)
  gauged_is_cocycle = is_cocycle w.group T w.roots (gauged_value w b) W.cochain.small W.cochain.number (lawful w.group T w.roots (gauged_value w b) laws)
