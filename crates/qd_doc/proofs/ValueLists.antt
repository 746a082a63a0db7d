-- Lists of stored values.
use Rattle.qd_doc.proofs.Names.{All, AreValues, Err, IsTermOf, List, Ok, OnErr, OnOk, Result, Term, [], add-one, ap, arith, drop, get_or, item_stretch, length, refl, sym, take, take-append-drop, value_of_terms, values_of, ℕ, ℤ, ◌++◌, ◌+◌, ◌<◌, ◌^◌, ◌∙◌, ◌∷◌, ◌≡◌}
use Rattle.qd_doc.proofs.StretchLaws.{length-stretches, stretch_at, stretches_same, stretches_pushed, order_pushed}
use Rattle.qd_doc.proofs.TermLaws.{longer, value_kept}
use Rattle.std.proofs.lemmas.List.{length-append}

module _ (starts : List ℕ) (terms : List Term) (great : List ℤ) where
  pub values_length : length (values_of starts terms great) ≡ length starts
  values_length = length-stretches (λ start. start) (λ start value. value_of_terms great value) starts terms

  -- the value at a place
  pub value_at : (i : ℕ) → i < length starts → value_of_terms great (item_stretch starts terms i) ≡ get_or (values_of starts terms great) i []
  value_at i inside =
      rw (add-one i) (sym (stretch_at (λ start. start) (λ start value. value_of_terms great value) starts terms i 0 [] inside))

module _ (starts : List ℕ) (terms more : List Term) (great also : List ℤ) (values : AreValues starts terms great) (kept : take (length great) also ≡ great) where
  -- more great coefficients change no value
  pub values_kept : values_of starts terms also ≡ values_of starts terms great
  values_kept =
      stretches_same (λ start. start) (λ start value. value_of_terms also value) (IsTermOf (length great)) (λ start value. value_of_terms great value)
      (λ start part each. value_kept great also kept part each) starts terms values.each

  -- one more value
  pub values_pushed : take (length terms) more ≡ terms → (v : List ℤ) → value_of_terms also (drop (length terms) more) ≡ v
      → values_of (starts ++ length terms ∷ []) more also ≡ values_of starts terms great ++ v ∷ []
  values_pushed front v value =
      let all : more ≡ terms ++ drop (length terms) more =
      sym (take-append-drop (length terms) more) ∙ ap (λ part. part ++ drop (length terms) more) front in
      ap (λ items. values_of (starts ++ length terms ∷ []) items also) all
      ∙ stretches_pushed (λ start. start) (λ start value. value_of_terms also value) starts (length terms) terms (drop (length terms) more) values.order refl
      ∙ ap (λ list. list ++ value_of_terms also (drop (length terms) more) ∷ []) values_kept
      ∙ ap (λ last. values_of starts terms great ++ last ∷ []) value

  pub values_still : take (length terms) more ≡ terms → All (IsTermOf (length also)) more → length starts + 1 < 2 ^ 32 → AreValues (starts ++ length terms ∷ []) more also
  values_still front each few = record {
    order = order_pushed (λ start. start) starts (length terms) (length more) values.order (longer terms more more front);
    each = each;
    few = omega (arith, length-append starts (length terms ∷ []));
  }

-- what follows from what holds on an answer
pub on_ok : {T E P Q : Type 0} (r : Result T E) → (P → Q) → OnOk r P → OnOk r Q
on_ok (Ok x) f p = f p
on_ok (Err e) f p = tt

pub on_err : {T E P Q : Type 0} (r : Result T E) → (P → Q) → OnErr r P → OnErr r Q
on_err (Ok x) f p = tt
on_err (Err e) f p = f p
