-- Terms added at the end of the terms of values.
use Rattle.qd_doc.proofs.Names.{AddsTerm, All, All-drop, All-head, All-tail, Great, IsTermOf, List, Small, Term, [], ap, append-nil, append_assoc, arith, coefficient_of, drop, drop-append-le, fold, fold-append, get_or, get_or-take, inl, inr, length, length-take, length-take-le, pos, power_of, refl, replicate, set, set_at, suc, sym, take, take-take, take_all, take_more, value_of_terms, ℕ, ℤ, ◌++◌, ◌+◌, ◌-◌, ◌<◌, ◌∙◌, ◌∷◌, ◌≡◌, ◌≤◌}

module _ {A : Type 0} (a b c : List A) where
  pub longer : take (length a) b ≡ a → length a ≤ length b
  longer kept = omega (arith, length-take (length a) b, ap length kept)

  pub kept_on : take (length a) b ≡ a → take (length b) c ≡ b → take (length a) c ≡ a
  kept_on kept then = sym (take-take (length a) (length b) c (longer kept)) ∙ ap (take (length a)) then ∙ kept

module _ (great more : List ℤ) (kept : take (length great) more ≡ great) where
  coefficient_kept : (term : Term) → IsTermOf (length great) term → coefficient_of more term ≡ coefficient_of great term
  coefficient_kept (Small power coefficient) is = refl
  coefficient_kept (Great power place) is =
      sym (get_or-take (length great) more place (pos 0) is.1) ∙ ap (λ all. get_or all place (pos 0)) kept

  folded_kept : (start : List ℤ) (terms : List Term) → All (IsTermOf (length great)) terms
      → fold (λ cs term. set cs (power_of term) (coefficient_of more term)) start terms ≡ fold (λ cs term. set cs (power_of term) (coefficient_of great term)) start terms
  folded_kept start [] each = refl
  folded_kept start (term ∷ terms) each =
      ap (λ c. fold (λ cs other. set cs (power_of other) (coefficient_of more other)) (set start (power_of term) c) terms)
      (coefficient_kept term (All-head (IsTermOf (length great)) term terms each))
      ∙ folded_kept (set start (power_of term) (coefficient_of great term)) terms (All-tail (IsTermOf (length great)) term terms each)

  -- more great coefficients change no value
  pub value_kept : (terms : List Term) → All (IsTermOf (length great)) terms → value_of_terms more terms ≡ value_of_terms great terms
  value_kept terms each = folded_kept (replicate 42 (pos 0)) terms each

-- the coefficients below a power, and zeros
abbrev pub below : List ℤ → ℕ → List ℤ
below cs power = take power cs ++ replicate (42 - power) (pos 0)

module _ (cs : List ℤ) (power : ℕ) (all : length cs ≡ 42) (inside : power < 42) where
  abbrev c : ℤ
  c = get_or cs power (pos 0)

  one_more : below cs (power + 1) ≡ take power cs ++ c ∷ replicate (42 - (power + 1)) (pos 0)
  one_more =
      ap (λ front. front ++ replicate (42 - (power + 1)) (pos 0)) (take_more cs power (pos 0) (omega (arith, all)))
      ∙ append_assoc (take power cs) (c ∷ []) (replicate (42 - (power + 1)) (pos 0))

  zero_more : below cs power ≡ take power cs ++ pos 0 ∷ replicate (42 - (power + 1)) (pos 0)
  zero_more =
      let one : 42 - power ≡ suc (42 - (power + 1)) = omega arith in
      ap (λ n. take power cs ++ replicate n (pos 0)) one

  pub below_set : set (below cs power) power c ≡ below cs (power + 1)
  below_set =
      ap (λ front. set front power c) zero_more
      ∙ set_at (take power cs) (pos 0) (replicate (42 - (power + 1)) (pos 0)) c power (length-take-le power cs (omega (arith, all)))
      ∙ sym one_more

  pub below_zero : c ≡ pos 0 → below cs power ≡ below cs (power + 1)
  below_zero zero = zero_more ∙ ap (λ x. take power cs ++ x ∷ replicate (42 - (power + 1)) (pos 0)) (sym zero) ∙ sym one_more

pub below_all : (cs : List ℤ) → length cs ≡ 42 → below cs 42 ≡ cs
below_all cs all = ap (λ front. front ++ []) (take_all 42 cs (omega (arith, all))) ∙ append-nil cs

-- a term of the value that begins at a place
pub term_added : (at : ℕ) (old new : List Term) (great more : List ℤ) (power : ℕ) (c : ℤ) → at ≤ length old → take (length great) more ≡ great → All (IsTermOf (length great)) old
    → (term : Term) × (new ≡ old ++ term ∷ []) × (power_of term ≡ power) × (coefficient_of more term ≡ c) → value_of_terms more (drop at new) ≡ set (value_of_terms great (drop at old)) power c
term_added at old new great more power c inside kept each added =
    let F : List ℤ → Term → List ℤ = λ cs term. set cs (power_of term) (coefficient_of more term) in
    let zeros : List ℤ = replicate 42 (pos 0) in
    ap (λ terms. value_of_terms more (drop at terms)) added.1
    ∙ ap (value_of_terms more) (drop-append-le at old (added.0 ∷ []) inside)
    ∙ fold-append F zeros (drop at old) (added.0 ∷ [])
    ∙ ap (λ cs. set cs (power_of added.0) (coefficient_of more added.0)) (value_kept great more kept (drop at old) (All-drop (IsTermOf (length great)) at old each))
    ∙ ap (λ p. set (value_of_terms great (drop at old)) p (coefficient_of more added.0)) added.2
    ∙ ap (set (value_of_terms great (drop at old)) power) added.3

-- the coefficients of a value below one more power
pub power_added : (at : ℕ) (old new : List Term) (great more : List ℤ) (cs : List ℤ) (power : ℕ) → at ≤ length old → take (length great) more ≡ great → All (IsTermOf (length great)) old
    → length cs ≡ 42 → power < 42 → AddsTerm old new more power (get_or cs power (pos 0)) → value_of_terms great (drop at old) ≡ below cs power
    → value_of_terms more (drop at new) ≡ below cs (power + 1)
power_added at old new great more cs power inside kept each all small (inl none) before =
    ap (λ terms. value_of_terms more (drop at terms)) none.1
    ∙ value_kept great more kept (drop at old) (All-drop (IsTermOf (length great)) at old each)
    ∙ before
    ∙ below_zero cs power all small none.0
power_added at old new great more cs power inside kept each all small (inr added) before =
    term_added at old new great more power (get_or cs power (pos 0)) inside kept each added
    ∙ ap (λ all_before. set all_before power (get_or cs power (pos 0))) before
    ∙ below_set cs power all small
