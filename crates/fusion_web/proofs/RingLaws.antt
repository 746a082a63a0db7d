-- A place more in a ring.
use Rattle.fusion_web.proofs.Names.{◌≡◌, ℕ, ◌+◌, ◌<◌, ◌≤◌, ◌⊎◌, inl, inr, List, Option, Some, None, length, get_or, set, refl, sym, ap, subst, ◌∙◌, arith, eq-or-lt_of_le, length-set, get_or-set_other, get_or-set_same, cases_eq, cases_lt, IsNext, IsFirst, IsLast, IsEmpty, IsRinged, AreDistinct, IsPlaceBefore}

-- a number below m + 1 is m or below it
pub below_suc : (r m : ℕ) → r < m + 1 → (r ≡ m) ⊎ (r < m)
below_suc r m below = eq-or-lt_of_le (omega arith)

-- at most, and not equal
lower : (a b : ℕ) → a ≤ b → (b ≡ a → ⊥) → a < b
lower a b most other = elim (below_suc a b (omega arith)) [ inl e ↦ absurd (other (sym e)) | inr less ↦ less ]

-- rings, keys and links that agree below m
module _ (ring ring' key key' next next' : ℕ → ℕ) (m : ℕ)
    (rings : (r : ℕ) → r < m → ring r ≡ ring' r) (keys : (r : ℕ) → r < m → key r ≡ key' r) (nexts : (r : ℕ) → r < m → next r ≡ next' r) where
  next_agrees : (p q : ℕ) → p < m → IsNext ring key m p q → IsNext ring' key' m p q
  next_agrees p q below is = record {
    inside = is.inside;
    same = sym (rings q is.inside) ∙ is.same ∙ rings p below;
    greater = λ less r inside here over.
        let after = is.greater (omega (arith, less, keys p below, keys q is.inside)) r inside (rings r inside ∙ here ∙ sym (rings p below)) (omega (arith, over, keys p below, keys r inside)) in
        omega (arith, after, keys q is.inside, keys r inside);
    around = λ less r inside here.
        let between = is.around (omega (arith, less, keys p below, keys q is.inside)) r inside (rings r inside ∙ here ∙ sym (rings p below)) in
        (omega (arith, between.0, keys q is.inside, keys r inside), omega (arith, between.1, keys p below, keys r inside));
  }

  pub ringed_agrees : (lasts : List (Option ℕ)) → IsRinged ring key m next lasts → IsRinged ring' key' m next' lasts
  ringed_agrees lasts is = record {
    linked = λ p below. subst (λ q. IsNext ring' key' m p q) (nexts p below) (next_agrees p (next p) below (is.linked p below));
    empty = λ c inside none r below here. is.empty c inside none r below (rings r below ∙ here);
    last = λ c e inside some.
        let old = is.last c e inside some in record {
          inside = old.inside;
          here = sym (rings e old.inside) ∙ old.here;
          greatest = λ r below here. let most = old.greatest r below (rings r below ∙ here) in omega (arith, most, keys r below, keys e old.inside);
        };
  }

module _ (ring key : ℕ → ℕ) (m : ℕ) where
  -- the new place alone in its ring
  alone : IsEmpty ring key m (ring m) → IsNext ring key (m + 1) m m
  alone empty = record {
    inside = omega arith;
    same = refl;
    greater = λ less. absurd (omega (arith, less));
    around = λ most r below here.
        elim (below_suc r m below) [
          | inl e ↦ (omega (arith, ap key e), omega (arith, ap key e))
          | inr old ↦ absurd (empty r old here)
        ];
  }

  -- another ring, and a place of the same ring between which and the next the new place isn't
  kept : (p q : ℕ) → p < m → IsNext ring key m p q
      → (ring m ≡ ring p → key p < key q → key p < key m → key q ≤ key m) → (ring m ≡ ring p → key q ≤ key p → (key q ≤ key m) × (key m ≤ key p))
      → IsNext ring key (m + 1) p q
  kept p q below is over round = record {
    inside = omega (arith, is.inside);
    same = is.same;
    greater = λ less r inside here more.
        elim (below_suc r m inside) [
          | inl e ↦ let after = over (sym (ap ring e) ∙ here) less (omega (arith, more, ap key e)) in omega (arith, after, ap key e)
          | inr old ↦ is.greater less r old here more
        ];
    around = λ less r inside here.
        elim (below_suc r m inside) [
          | inl e ↦ let between = round (sym (ap ring e) ∙ here) less in (omega (arith, between.0, ap key e), omega (arith, between.1, ap key e))
          | inr old ↦ is.around less r old here
        ];
  }

  -- how far the place for m was looked for: `after` follows `before`, which is passed unless it is the last of the ring
  pub record IsSearched (next : ℕ → ℕ) (before after : ℕ) : Type 0 where
    pub inside : before < m
    pub here : ring before ≡ ring m
    pub leads : after ≡ next before
    pub passed : key before < key after → key before < key m

  module _ (next : ℕ → ℕ) (linked : (p : ℕ) → p < m → IsNext ring key m p (next p)) where
    module _ (last : ℕ) (is_last : IsLast ring key m (ring m) last) where
      -- m has the greatest key
      pub before_last : key last < key m → IsPlaceBefore ring key m next last
      before_last less =
          let is = linked last is_last.inside in record {
            inside = is_last.inside;
            here = is_last.here;
            greater = λ over. let most = is_last.greatest (next last) is.inside (is.same ∙ is_last.here) in absurd (omega (arith, over, most));
            around = λ most under. less;
          }

      pub search_begins : IsSearched next last (next last)
      search_begins =
          let is = linked last is_last.inside in record {
            inside = is_last.inside;
            here = is_last.here;
            leads = refl;
            passed = λ over. let most = is_last.greatest (next last) is.inside (is.same ∙ is_last.here) in absurd (omega (arith, over, most));
          }

      -- the next place is inside, in the ring, and where it is passed it isn't the last
      pub search_goes : (before after : ℕ) → IsSearched next before after → key m ≤ key last → key after < key m → (IsSearched next after (next after)) × (key after < key (next after))
      search_goes before after s most less =
          let is = linked before s.inside in
          let inside : after < m = subst (λ a. a < m) (sym s.leads) is.inside in
          let here : ring after ≡ ring m = ap ring s.leads ∙ is.same ∙ s.here in
          let then = linked after inside in (
            record { inside = inside; here = here; leads = refl; passed = λ over. less },
            elim (cases_lt (key after) (key (next after))) [
              | inl more ↦ more
              | inr over ↦ let end = then.around over last is_last.inside (is_last.here ∙ sym here) in absurd (omega (arith, end.1))
            ],
          )

      pub search_ends : (before after : ℕ) → IsSearched next before after → key m ≤ key after → IsPlaceBefore ring key m next before
      search_ends before after s most =
          let most' : key m ≤ key (next before) = subst (λ a. key m ≤ key a) s.leads most in record {
            inside = s.inside;
            here = s.here;
            greater = λ over. (s.passed (subst (λ a. key before < key a) (sym s.leads) over), most');
            around = λ over less. absurd (omega arith);
          }

      pub search_inside : (before after : ℕ) → IsSearched next before after → after < m
      search_inside before after s = subst (λ a. a < m) (sym s.leads) (linked before s.inside).inside

    module _ (apart : AreDistinct ring key (m + 1)) (p : ℕ) (is : IsPlaceBefore ring key m next p) where
      -- p leads to m now, m to where p led
      to_new : IsNext ring key (m + 1) p m
      to_new =
          let old = linked p is.inside in record {
            inside = omega arith;
            same = sym is.here;
            greater = λ less r inside here over.
                elim (below_suc r m inside) [
                  | inl e ↦ omega (arith, ap key e)
                  | inr before ↦
                      elim (cases_lt (key p) (key (next p))) [
                        | inl up ↦ let after = old.greater up r before here over in let between = is.greater up in omega arith
                        | inr down ↦ let between = old.around down r before here in absurd (omega (arith, between.1))
                      ]
                ];
            around = λ most r inside here.
                elim (below_suc r m inside) [
                  | inl e ↦ (omega (arith, ap key e), omega (arith, ap key e, most))
                  | inr before ↦
                      elim (cases_lt (key p) (key (next p))) [
                        | inl up ↦ let between = is.greater up in absurd (omega arith)
                        | inr down ↦
                            let between = old.around down r before here in
                            elim (cases_lt (key (next p)) (key m)) [
                              | inl over ↦ let after = is.around down over in absurd (omega arith)
                              | inr under ↦ (omega (arith, between.0), between.1)
                            ]
                      ]
                ];
          }

      from_new : IsNext ring key (m + 1) m (next p)
      from_new =
          let old = linked p is.inside in record {
            inside = omega (arith, old.inside);
            same = old.same ∙ is.here;
            greater = λ less r inside here over.
                elim (below_suc r m inside) [
                  | inl e ↦ absurd (omega (arith, ap key e, over))
                  | inr before ↦
                      elim (cases_lt (key p) (key (next p))) [
                        | inl up ↦ let between = is.greater up in old.greater up r before (here ∙ sym is.here) (omega (arith, between.0, over))
                        | inr down ↦ (old.around down r before (here ∙ sym is.here)).0
                      ]
                ];
            around = λ most r inside here.
                elim (below_suc r m inside) [
                  | inl e ↦ (omega (arith, ap key e, most), omega (arith, ap key e))
                  | inr before ↦
                      elim (cases_lt (key p) (key (next p))) [
                        | inl up ↦
                            let between = is.greater up in
                            let same : m ≡ next p = apart m (next p) (omega arith) (omega (arith, old.inside)) (sym (old.same ∙ is.here)) (omega arith) in
                            absurd (omega (arith, same, old.inside))
                        | inr down ↦
                            let between = old.around down r before (here ∙ sym is.here) in
                            elim (cases_lt (key (next p)) (key m)) [
                              | inl over ↦ let after = is.around down over in (between.0, omega (arith, between.1))
                              | inr under ↦
                                  let same : m ≡ next p = apart m (next p) (omega arith) (omega (arith, old.inside)) (sym (old.same ∙ is.here)) (omega arith) in
                                  absurd (omega (arith, same, old.inside))
                            ]
                      ]
                ];
          }

      -- and all other places where they led
      others : (r : ℕ) → r < m → (r ≡ p → ⊥) → IsNext ring key (m + 1) r (next r)
      others r inside other =
          let old = linked p is.inside in
          let own = linked r inside in
          let one_key : ring m ≡ ring r → key p ≡ key r → ⊥ = λ here e. other (sym (apart p r (omega (arith, is.inside)) (omega arith) (is.here ∙ here) e)) in
          kept r (next r) inside own
          (λ here up less.
          let rest = own.greater up p is.inside (is.here ∙ here) in
          elim (cases_lt (key p) (key (next p))) [
            | inl rising ↦
                let between = is.greater rising in
                elim (cases_lt (key p) (key r)) [
                  | inl over ↦ let after = old.greater rising r inside (sym (is.here ∙ here)) over in absurd (omega arith)
                  | inr under ↦ let reached = rest (lower _ _ under (one_key here)) in omega arith
                ]
            | inr falling ↦
                let around = old.around falling r inside (sym (is.here ∙ here)) in
                let reached = rest (lower _ _ around.1 (one_key here)) in
                let over = is.around falling (omega (arith, around.0, less)) in
                omega arith
          ])
          (λ here down.
          let around = own.around down p is.inside (is.here ∙ here) in
          let over = lower _ _ around.1 (λ e. one_key here (sym e)) in
          elim (cases_lt (key p) (key (next p))) [
            | inl rising ↦
                let between = is.greater rising in
                let after = old.greater rising r inside (sym (is.here ∙ here)) over in
                (omega (arith, around.0, between.0), omega (arith, between.1, after))
            | inr falling ↦ let wrong = old.around falling r inside (sym (is.here ∙ here)) in absurd (omega (arith, wrong.1, over))
          ])

-- the lasts of the rings with the new place
module _ (ring key : ℕ → ℕ) (m : ℕ) (lasts : List (Option ℕ)) (inside : ring m < length lasts)
    (empty : (c : ℕ) → c < length lasts → get_or lasts c None ≡ None → IsEmpty ring key m c)
    (last : (c e : ℕ) → c < length lasts → get_or lasts c None ≡ Some e → IsLast ring key m c e) where
  -- in a ring that isn't its own
  empty_elsewhere : (c : ℕ) → (c ≡ ring m → ⊥) → IsEmpty ring key m c → IsEmpty ring key (m + 1) c
  empty_elsewhere c other none r below here = elim (below_suc r m below) [ inl e ↦ other (sym here ∙ ap ring e) | inr old ↦ none r old here ]

  last_elsewhere : (c e : ℕ) → (c ≡ ring m → ⊥) → IsLast ring key m c e → IsLast ring key (m + 1) c e
  last_elsewhere c e other is = record {
    inside = omega (arith, is.inside);
    here = is.here;
    greatest = λ r below here. elim (below_suc r m below) [ inl same ↦ absurd (other (sym here ∙ ap ring same)) | inr old ↦ is.greatest r old here ];
  }

  -- the new place is the last of its ring
  module _ (most : (r : ℕ) → r < m → ring r ≡ ring m → key r ≤ key m) where
    pub lasts_empty : (c : ℕ) → c < length (set lasts (ring m) (Some m)) → get_or (set lasts (ring m) (Some m)) c None ≡ None → IsEmpty ring key (m + 1) c
    lasts_empty c below none = elim (cases_eq c (ring m)) [
      | inl e ↦
          let wrong : get_or (set lasts (ring m) (Some m)) (ring m) None ≡ Some m = get_or-set_same lasts (ring m) (Some m) None inside in
          absurd (let both : Some m ≡ None = sym wrong ∙ ap (λ d. get_or (set lasts (ring m) (Some m)) d None) (sym e) ∙ none in cc)
      | inr other ↦
          empty_elsewhere c other (empty c (omega (arith, below, length-set lasts (ring m) (Some m))) (sym (get_or-set_other lasts (ring m) c (Some m) None other) ∙ none))
    ]

    pub lasts_last : (c e : ℕ) → c < length (set lasts (ring m) (Some m)) → get_or (set lasts (ring m) (Some m)) c None ≡ Some e → IsLast ring key (m + 1) c e
    lasts_last c e below some = elim (cases_eq c (ring m)) [
      | inl same ↦
          let there : get_or (set lasts (ring m) (Some m)) (ring m) None ≡ Some m = get_or-set_same lasts (ring m) (Some m) None inside in
          let both : Some m ≡ Some e = sym there ∙ ap (λ d. get_or (set lasts (ring m) (Some m)) d None) (sym same) ∙ some in
          let is : m ≡ e = cc in
          subst (λ d. IsLast ring key (m + 1) c d) is (record {
            inside = omega arith;
            here = sym same;
            greatest = λ r under here. elim (below_suc r m under) [ inl new ↦ omega (arith, ap key new) | inr old ↦ most r old (here ∙ same) ];
          })
      | inr other ↦
          last_elsewhere c e other (last c e (omega (arith, below, length-set lasts (ring m) (Some m))) (sym (get_or-set_other lasts (ring m) c (Some m) None other) ∙ some))
    ]

  -- it isn't
  module _ (end : ℕ) (ends : get_or lasts (ring m) None ≡ Some end) (less : key m ≤ key end) where
    pub lasts_empty_still : (c : ℕ) → c < length lasts → get_or lasts c None ≡ None → IsEmpty ring key (m + 1) c
    lasts_empty_still c below none = elim (cases_eq c (ring m)) [
      | inl e ↦ absurd (let both : Some end ≡ None = sym ends ∙ ap (λ d. get_or lasts d None) (sym e) ∙ none in cc)
      | inr other ↦ empty_elsewhere c other (empty c below none)
    ]

    pub lasts_last_still : (c e : ℕ) → c < length lasts → get_or lasts c None ≡ Some e → IsLast ring key (m + 1) c e
    lasts_last_still c e below some = elim (cases_eq c (ring m)) [
      | inl same ↦
          let both : Some end ≡ Some e = sym ends ∙ ap (λ d. get_or lasts d None) (sym same) ∙ some in
          let is : end ≡ e = cc in
          let old = last c e below some in record {
            inside = omega (arith, old.inside);
            here = old.here;
            greatest = λ r under here. elim (below_suc r m under) [ inl new ↦ omega (arith, ap key new, ap key is) | inr before ↦ old.greatest r before here ];
          }
      | inr other ↦ last_elsewhere c e other (last c e below some)
    ]

-- the new place alone in its ring, which was empty
pub ringed_alone : (ring key next : ℕ → ℕ) (m : ℕ) (lasts : List (Option ℕ)) → ring m < length lasts → get_or lasts (ring m) None ≡ None → next m ≡ m
    → IsRinged ring key m next lasts → IsRinged ring key (m + 1) next (set lasts (ring m) (Some m))
ringed_alone ring key next m lasts inside none own is =
    let nothing = is.empty (ring m) inside none in record {
      linked = λ p below.
          elim (below_suc p m below) [
            | inl e ↦ subst (λ q. IsNext ring key (m + 1) q (next q)) (sym e) (subst (λ q. IsNext ring key (m + 1) m q) (sym own) (alone ring key m nothing))
            | inr old ↦ kept ring key m p (next p) old (is.linked p old) (λ here. absurd (nothing p old (sym here))) (λ here. absurd (nothing p old (sym here)))
          ];
      empty = lasts_empty ring key m lasts inside is.empty is.last (λ r below here. absurd (nothing r below here));
      last = lasts_last ring key m lasts inside is.empty is.last (λ r below here. absurd (nothing r below here));
    }

-- the new place after the place before it
module _ (ring key next next' : ℕ → ℕ) (m p : ℕ) (lasts : List (Option ℕ)) (is : IsRinged ring key m next lasts) (apart : AreDistinct ring key (m + 1))
    (before : IsPlaceBefore ring key m next p)
    (at_new : next' m ≡ next p) (at_before : next' p ≡ m) (elsewhere : (r : ℕ) → r < m → (r ≡ p → ⊥) → next' r ≡ next r) where
  linked_anew : (r : ℕ) → r < m + 1 → IsNext ring key (m + 1) r (next' r)
  linked_anew r below =
      elim (below_suc r m below) [
        | inl e ↦ subst (λ q. IsNext ring key (m + 1) q (next' q)) (sym e) (subst (λ q. IsNext ring key (m + 1) m q) (sym at_new) (from_new ring key m next is.linked apart p before))
        | inr old ↦ elim (cases_eq r p) [
          | inl same ↦ subst (λ q. IsNext ring key (m + 1) q (next' q)) (sym same) (subst (λ q. IsNext ring key (m + 1) p q) (sym at_before) (to_new ring key m next is.linked apart p before))
          | inr other ↦ subst (λ q. IsNext ring key (m + 1) r q) (sym (elsewhere r old other)) (others ring key m next is.linked apart p before r old other)
        ]
      ]

  module _ (end : ℕ) (inside : ring m < length lasts) (ends : get_or lasts (ring m) None ≡ Some end) where
    pub ringed_last : key end < key m → IsRinged ring key (m + 1) next' (set lasts (ring m) (Some m))
    ringed_last less =
        let old = is.last (ring m) end inside ends in
        let most : (r : ℕ) → r < m → ring r ≡ ring m → key r ≤ key m = λ r below here. omega (arith, old.greatest r below here, less) in record {
          linked = linked_anew;
          empty = lasts_empty ring key m lasts inside is.empty is.last most;
          last = lasts_last ring key m lasts inside is.empty is.last most;
        }

    pub ringed_between : key m ≤ key end → IsRinged ring key (m + 1) next' lasts
    ringed_between less = record {
      linked = linked_anew;
      empty = lasts_empty_still ring key m lasts inside is.empty is.last end ends less;
      last = lasts_last_still ring key m lasts inside is.empty is.last end ends less;
    }

-- the place after the last is the first
pub first_after_last : (ring key : ℕ → ℕ) (m c e q : ℕ) → IsLast ring key m c e → IsNext ring key m e q → IsFirst ring key m c q
first_after_last ring key m c e q last is = record {
  inside = is.inside;
  here = is.same ∙ last.here;
  least = λ r below here. (is.around (last.greatest q is.inside (is.same ∙ last.here)) r below (here ∙ sym last.here)).0;
}
