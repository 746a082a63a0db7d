-- Laws of the texts of values.
use Rattle.qd_ring.proofs.Names.{◌≡◌, ℕ, zero, suc, ◌+◌, Bool, true, false, List, [], ◌∷◌, ◌++◌, length, drop, drop-cons, drop_all, get_or, refl, sym, ◌∙◌, ap, ◌<◌, ◌≤◌, arith, eqb, ℤ, pos, negsuc, nat_abs, codes, add-one, append_assoc, ltb, length-append, append-nil, lt-ltb, ne_eqb, to_z-of_z, SFits, numeral, term_text, terms_text, or_nought, value_text}
use Rattle.std.proofs.Common.{to_z, of_z}
use Rattle.std.specs.Int.{w128}
use Rattle.std.proofs.lemmas.List.{nil_from_length}
use Rattle.std.proofs.lemmas.Bool.{eqb-true}
use Rattle.qd_ring.proofs.Fronts.{numeral_step}

-- -1 + x^2, 3 - 2 x^5 and 0
example : (value_text (negsuc 0 ∷ pos 0 ∷ pos 1 ∷ []) ≡ codes "-1+1z2") × (value_text (pos 3 ∷ pos 0 ∷ pos 0 ∷ pos 0 ∷ pos 0 ∷ negsuc 1 ∷ pos 0 ∷ []) ≡ codes "3-2z5") × (value_text (pos 0 ∷ pos 0 ∷ []) ≡ codes "0") × (value_text (pos 0 ∷ negsuc 11 ∷ []) ≡ codes "-12z1")
unfolding value_text terms_text
example = (refl, refl, refl, refl)

pub terms_nil : (later : Bool) (p : ℕ) → terms_text later p [] ≡ []
unfolding terms_text
terms_nil later p = refl

pub terms_nought : (later : Bool) (p : ℕ) (c : ℤ) (cs : List ℤ) → eqb (nat_abs c) 0 ≡ true → terms_text later p (c ∷ cs) ≡ terms_text later (suc p) cs
unfolding terms_text
terms_nought later p c cs h = ap (λ b. elim b [ true ↦ terms_text later (suc p) cs | false ↦ term_text later p c ++ terms_text true (suc p) cs ]) h

pub terms_term : (later : Bool) (p : ℕ) (c : ℤ) (cs : List ℤ) → eqb (nat_abs c) 0 ≡ false → terms_text later p (c ∷ cs) ≡ term_text later p c ++ terms_text true (suc p) cs
unfolding terms_text
terms_term later p c cs h = ap (λ b. elim b [ true ↦ terms_text later (suc p) cs | false ↦ term_text later p c ++ terms_text true (suc p) cs ]) h

-- a number whose magnitude is 0
pub number_nought : (c : ℤ) → eqb (nat_abs c) 0 ≡ true → c ≡ pos 0
number_nought (pos n) e = ap pos (eqb-true n 0 e)
number_nought (negsuc n) e = absurd (omega (arith, eqb-true (suc n) 0 e))

pub or_nought_filled : (xs : List ℕ) → 0 < length xs → or_nought xs ≡ xs
or_nought_filled [] h = absurd (omega arith)
or_nought_filled (x ∷ xs) h = refl

-- ---- printing from the front

pub numeral_nonempty : (n : ℕ) → 0 < n → 0 < length (numeral n)
numeral_nonempty n h = rw (numeral_step n h, length-append) (omega arith)

pub term_nonempty : (later : Bool) (p : ℕ) (c : ℤ) → 0 < nat_abs c → 0 < length (term_text later p c)
term_nonempty later p c h = simp length-append (omega (arith, numeral_nonempty (nat_abs c) h))

-- where the rest of the coefficients begins with 0, it writes what follows
pub terms_skip : (later : Bool) (cs : List ℤ) (i : ℕ) → i < length cs → get_or cs i (pos 0) ≡ pos 0
    → terms_text later i (drop i cs) ≡ terms_text later (i + 1) (drop (i + 1) cs)
terms_skip later cs i h none = rw (drop-cons cs i (pos 0) h, none, add-one) (terms_nought later i (pos 0) (drop (suc i) cs) refl)

-- else it writes a term, and what follows comes later
pub terms_more : (old out : List ℕ) (cs : List ℤ) (i : ℕ) (c : ℤ) → i < length cs → get_or cs i (pos 0) ≡ c → 0 < nat_abs c → length old ≤ length out
    → (out ++ term_text (ltb (length old) (length out)) i c)
    ++ terms_text (ltb (length old) (length (out ++ term_text (ltb (length old) (length out)) i c))) (i + 1) (drop (i + 1) cs)
    ≡ out ++ terms_text (ltb (length old) (length out)) i (drop i cs)
terms_more old out cs i c h e some grown =
    let later = ltb (length old) (length out) in
    let term = term_text later i c in
    let after : ltb (length old) (length (out ++ term)) ≡ true = lt-ltb _ _ (omega (arith, length-append out term, term_nonempty later i c some)) in
    rw (after, drop-cons cs i (pos 0) h, e, add-one, terms_term later i c (drop (suc i) cs) (ne_eqb (nat_abs c) 0 (λ z. omega arith)))
    (append_assoc out term (terms_text true (suc i) (drop (suc i) cs)))

-- at the end there is no rest
pub terms_ended : (out : List ℕ) (later : Bool) (cs : List ℤ) (i : ℕ) → length cs ≤ i → out ++ terms_text later i (drop i cs) ≡ out
terms_ended out later cs i h = rw (drop_all i cs h, terms_nil) (append-nil out)

-- with no term the text is `0`
pub value_of_none : (old out : List ℕ) (cs : List ℤ) → out ≡ old ++ terms_text false 0 cs → length out ≡ length old → out ++ 48 ∷ [] ≡ old ++ value_text cs
unfolding value_text
value_of_none old out cs written same =
    let nothing : terms_text false 0 cs ≡ [] = nil_from_length (terms_text false 0 cs) (omega (arith, simp length-append at (ap length written))) in
    ap (λ o. o ++ 48 ∷ []) written ∙ ap (λ t. (old ++ t) ++ 48 ∷ []) nothing ∙ ap (λ o. o ++ 48 ∷ []) (append-nil old) ∙ ap (λ t. old ++ or_nought t) (sym nothing)

pub value_of_some : (old out : List ℕ) (cs : List ℤ) → out ≡ old ++ terms_text false 0 cs → (length out ≡ length old → ⊥) → out ≡ old ++ value_text cs
unfolding value_text
value_of_some old out cs written apart = written ∙ ap (λ t. old ++ t) (filled (terms_text false 0 cs) (λ h. apart (ap length written ∙ simp length-append (omega arith))))
  where
    filled : (xs : List ℕ) → (length xs ≡ 0 → ⊥) → xs ≡ or_nought xs
    filled [] h = absurd (h refl)
    filled (x ∷ xs) h = refl

-- the pieces of a term
pub term_joined : (out sign power : List ℕ) (m n : ℕ) → m ≡ n → ((out ++ sign) ++ numeral m) ++ power ≡ out ++ (sign ++ (numeral n ++ power))
term_joined out sign power m n h =
    ap (λ k. ((out ++ sign) ++ numeral k) ++ power) h ∙ append_assoc (out ++ sign) (numeral n) power ∙ append_assoc out sign (numeral n ++ power)

-- ---- numbers of 128 bits

-- bits that are not 0 stand for a number that isn't 0
pub nonzero_from_bits : (x : ℤ) → SFits w128 x → (of_z w128 x ≡ 0 → ⊥) → 0 < nat_abs (to_z w128 (of_z w128 x))
nonzero_from_bits x fits h = rw (to_z-of_z w128 x fits) (magnitude x h)
  where
    magnitude : (y : ℤ) → (of_z w128 y ≡ 0 → ⊥) → 0 < nat_abs y
    magnitude (pos zero) n = absurd (n refl)
    magnitude (pos (suc n)) m = omega arith
    magnitude (negsuc n) m = omega arith

pub zero_from_bits : (x : ℤ) → SFits w128 x → of_z w128 x ≡ 0 → x ≡ pos 0
zero_from_bits x fits h = sym (to_z-of_z w128 x fits) ∙ ap (to_z w128) h
