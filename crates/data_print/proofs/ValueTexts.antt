-- The text of a value, by its coefficients and by the array of them.
use Rattle.data_print.proofs.Names.{◌≡◌, ℕ, zero, suc, ◌-◌, Bool, true, false, List, [], ◌∷◌, ◌++◌, length, refl, sym, ap, ◌∙◌, eqb, ℤ, pos, nat_abs, flat_map_more, cyclotomic_value, value_word, value_words}
use Rattle.cyclotomic.specs.Ring.{Value}
use Rattle.cyclotomic.specs.Polynomial.{zeros}
use Rattle.qd_ring.specs.CycArrays.{array_of}
use Rattle.qd_ring.specs.ValueText.{term_text, terms_text, or_nought, value_text}
use Rattle.qd_ring.specs.declared.cyc.Cyc.{Cyc}
use Rattle.qd_ring.proofs.CycSums.{array-of_value}
use Rattle.qd_ring.proofs.ValueTextLaws.{terms_nil, terms_nought, terms_term}

-- zeros have no terms
terms_of_zeros : (later : Bool) (p n : ℕ) → terms_text later p (zeros n) ≡ []
terms_of_zeros later p zero = terms_nil later p
terms_of_zeros later p (suc n) = terms_nought later p (pos 0) (zeros n) refl ∙ terms_of_zeros later (suc p) n

-- nor have they after other coefficients
terms_before_zeros : (later : Bool) (p n : ℕ) (cs : List ℤ) → terms_text later p (cs ++ zeros n) ≡ terms_text later p cs
terms_before_zeros later p n [] = terms_of_zeros later p n ∙ sym (terms_nil later p)
terms_before_zeros later p n (c ∷ cs) = by_first (eqb (nat_abs c) 0) (λ l q. terms_before_zeros l q n cs) refl
  where
    by_first : (b : Bool) → ((l : Bool) (q : ℕ) → terms_text l q (cs ++ zeros n) ≡ terms_text l q cs) → eqb (nat_abs c) 0 ≡ b → terms_text later p (c ∷ (cs ++ zeros n)) ≡ terms_text later p (c ∷ cs)
    by_first true rest none =
        terms_nought later p c (cs ++ zeros n) none ∙ rest later (suc p) ∙ sym (terms_nought later p c cs none)
    by_first false rest some =
        terms_term later p c (cs ++ zeros n) some ∙ ap (λ text. term_text later p c ++ text) (rest true (suc p))
        ∙ sym (terms_term later p c cs some)

-- the array of a value has its text
pub text_of : {k : ℕ} (u : Cyc k) → value_text u.coefficients ≡ value_text (cyclotomic_value k u.coefficients).coefficients
unfolding value_text array_of
text_of {k} u =
    let v = cyclotomic_value k u.coefficients in
    ap value_text (array-of_value k u.conductor u.coefficients u.array) ∙ ap or_nought (terms_before_zeros false 0 (42 - length v.coefficients) v.coefficients)

-- one more value after a text
pub words_more : {n : ℕ} (text : List ℕ) (values : List (Value n)) (u : Value n) → (text ++ value_words values) ++ value_word u ≡ text ++ value_words (values ++ u ∷ [])
words_more text values u = flat_map_more (λ v. value_word v) text values u
