-- Parts that are added to a list, and those that are nought and left out.
use Rattle.dixon_split.proofs.Names.{◌≡◌, ◌≢◌, ℕ, suc, true, false, List, [], ◌∷◌, ◌++◌, map, get_or, append_assoc, refl, sym, ◌∙◌, ap, arith, eqb-true, eqb, mod-eq_of_lt, eq-eqb, fun_ext, ap₂, all_below, all_below-at, all_below-all, CommRing, field_residue, ZeroTest, part, parts_below, parts_zero, parts_skip, parts_keep, test_true, test_false, Element, IsElement, residues, HasStructure, Structure}
use Rattle.prime_field.specs.Laws.Field.{nought_value}

pub map_push : {X Y : Type 0} (f : X → Y) (xs : List X) (x : X) → map f (xs ++ x ∷ []) ≡ map f xs ++ f x ∷ []
map_push f [] x = refl
map_push f (y ∷ xs) x = ap (λ ys. f y ∷ ys) (map_push f xs x)

pub append_none : {X : Type 0} (xs : List X) → xs ≡ xs ++ []
append_none [] = refl
append_none (x ∷ xs) = ap (λ ys. x ∷ ys) (append_none xs)

module _ (a : Structure) (Z : CommRing (Element a.q a.rank)) (T : ZeroTest Z) (H : HasStructure a Z) where
  -- numbers that are all 0 stand for nought, and no others
  pub zero_residues : (numbers : List ℕ) → all_below a.rank (λ k. eqb (get_or numbers k 0) 0) ≡ true → residues a numbers ≡ Z.nought
  zero_residues numbers h =
      fun_ext (λ k. ap (field_residue a.q a.listed) (eqb-true (get_or numbers k.value 0) 0 (all_below-at a.rank k.value (λ k. eqb (get_or numbers k 0) 0) h k.below)) ∙ sym (H.nought_at k))

  pub other_residues : (numbers : List ℕ) → IsElement a.q a.rank numbers → all_below a.rank (λ k. eqb (get_or numbers k 0) 0) ≡ false → residues a numbers ≢ Z.nought
  other_residues numbers element h e =
      absurd (let t : true ≡ false = sym (all_below-all a.rank (λ k. eqb (get_or numbers k 0) 0) (λ i below. eq-eqb (get_or numbers i 0) 0
      (sym (mod-eq_of_lt (element.below i (let c = element.count in omega arith)))
      ∙ nought_value a.q a.listed (residues a numbers (record { value = i; below = below })) (ap (λ (z : Element a.q a.rank). z (record { value = i; below = below })) e ∙ H.nought_at (record { value = i; below = below }))))) ∙ h in cc)

  pub skipped : (k e : Element a.q a.rank) (v : ℕ) (before olds : List (Element a.q a.rank)) (p : List ℕ) → residues a p ≡ part Z a.q k e v → all_below a.rank (λ k. eqb (get_or p k 0) 0) ≡ true
      → olds ≡ before ++ parts_below Z T a.q k e v → olds ≡ before ++ parts_below Z T a.q k e (suc v)
  skipped k e v before olds p is all h = h ∙ ap (λ ps. before ++ ps) (sym (parts_skip Z T a.q k e v (test_true Z T (part Z a.q k e v) (sym is ∙ zero_residues p all))))

  pub added : (k e : Element a.q a.rank) (v : ℕ) (before olds : List (Element a.q a.rank)) (p : List ℕ) → IsElement a.q a.rank p → residues a p ≡ part Z a.q k e v → all_below a.rank (λ k. eqb (get_or p k 0) 0) ≡ false
      → olds ≡ before ++ parts_below Z T a.q k e v → olds ++ residues a p ∷ [] ≡ before ++ parts_below Z T a.q k e (suc v)
  added k e v before olds p element is other h =
      ap₂ (λ xs x. xs ++ x ∷ []) h is ∙ append_assoc before (parts_below Z T a.q k e v) (part Z a.q k e v ∷ [])
      ∙ ap (λ ps. before ++ ps) (sym (parts_keep Z T a.q k e v (test_false Z T (part Z a.q k e v) (λ none. other_residues p element other (is ∙ none)))))

  -- before any part
  pub none_added : (k e : Element a.q a.rank) (olds : List (Element a.q a.rank)) → olds ≡ olds ++ parts_below Z T a.q k e 0
  none_added k e olds = append_none olds ∙ ap (λ ps. olds ++ ps) (sym (parts_zero Z T a.q k e))
