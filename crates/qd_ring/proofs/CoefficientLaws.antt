-- Lists of coefficients, written and read.
use Rattle.qd_ring.proofs.Names.{◌≡◌, ℕ, zero, suc, ◌+◌, ◌<◌, ◌≤◌, min, Bool, true, false, ◌&&◌, List, [], ◌∷◌, ◌++◌, length, drop, map, refl, ap, sym, subst, ◌∙◌, inl, inr, arith, eqb, cond, replicate, length-append, zero-add, Option, Some, None, add-zero, suc-add, ℤ, pos, negsuc, nat_abs, option_map, ap₂, and_parts, cases_Bool, eqb-true, eqb-false, eq-eqb, ne_eqb, true≢false, Term, term_text, terms_text, term_after_sign, term_of, coefficients_of}
use Rattle.std.proofs.Math.Seq.{drop-append_seam}
use Rattle.std.proofs.lemmas.List.{nil_from_length}
use Rattle.std.proofs.lemmas.Option.{cond_some}
use Rattle.qd_ring.proofs.ValueTextLaws.{number_nought, terms_nil, terms_nought, terms_term, term_nonempty}
use Rattle.qd_ring.proofs.TermLaws.{capped, EndsTerm, TermRead, term_written, term_read}

-- ---- one power after another

-- the coefficients from x^p on after one 0
abbrev skipped : Option (List ℤ) → Option (List ℤ)
skipped o = option_map (λ cs. pos 0 ∷ cs) o

none_left : (p : ℕ) (later : Bool) (text : List ℕ) → coefficients_of zero p later text ≡ cond (eqb (length text) 0 && later) (Some []) None
unfolding coefficients_of
none_left p later text = refl

module _ (n p : ℕ) (later : Bool) (text : List ℕ) where
  here : (term : Term) → term_of later text ≡ Some term → term.power ≡ p
      → coefficients_of (suc n) p later text ≡ option_map (λ cs. term.coefficient ∷ cs) (coefficients_of n (suc p) true (drop term.len text))
  unfolding coefficients_of
  here term h e = rw (h, eq-eqb term.power p e, coefficients_of)

  other : (term : Term) → term_of later text ≡ Some term → (term.power ≡ p → ⊥)
      → coefficients_of (suc n) p later text ≡ skipped (coefficients_of n (suc p) later text)
  unfolding coefficients_of
  other term h e = rw (h, ne_eqb term.power p e, coefficients_of)

  nothing : term_of later text ≡ None → coefficients_of (suc n) p later text ≡ skipped (coefficients_of n (suc p) later text)
  unfolding coefficients_of
  nothing h = rw (h, coefficients_of)

-- ---- steps of the reader

-- a term is no empty text
filled : (later : Bool) (text : List ℕ) (term : Term) → TermRead later text term → 0 < length text
filled later text term r =
    omega (arith, length-append (term_text later r.power r.coefficient) (drop term.len text), ap length r.written, term_nonempty later r.power r.coefficient r.some)

term_filled : (later : Bool) (text : List ℕ) (term : Term) → term_of later text ≡ Some term → 0 < length text
term_filled later text term h = filled later text term (term_read later text term h)

-- up to the power of the next term all coefficients are 0
pub skipped_to_term : (k n p : ℕ) (later : Bool) (text : List ℕ) (term : Term) → term_of later text ≡ Some term → term.power ≡ p + k
    → coefficients_of (k + suc n) p later text ≡ option_map (λ cs. replicate k (pos 0) ++ (term.coefficient ∷ cs)) (coefficients_of n (suc (p + k)) true (drop term.len text))
skipped_to_term zero n p later text term h e =
    rw zero-add (here n p later text term h (e ∙ add-zero p) ∙ ap (λ q. option_map (λ cs. term.coefficient ∷ cs) (coefficients_of n (suc q) true (drop term.len text))) (sym (add-zero p)))
skipped_to_term (suc k) n p later text term h e =
    rw suc-add
    (other (k + suc n) p later text term h (λ z. omega arith)
    ∙ ap skipped (skipped_to_term k n (suc p) later text term h (omega arith))
    ∙ both (coefficients_of n (suc (suc p + k)) true (drop term.len text))
    ∙ ap (λ q. option_map (λ cs. pos 0 ∷ (replicate k (pos 0) ++ (term.coefficient ∷ cs))) (coefficients_of n (suc q) true (drop term.len text))) (omega arith))
  where
    both : (o : Option (List ℤ)) → skipped (option_map (λ cs. replicate k (pos 0) ++ (term.coefficient ∷ cs)) o) ≡ option_map (λ cs. pos 0 ∷ (replicate k (pos 0) ++ (term.coefficient ∷ cs))) o
    both None = refl
    both (Some cs) = refl

-- a term of another power is in no place
pub term_missed : (n p : ℕ) (later : Bool) (text : List ℕ) (term : Term) → term_of later text ≡ Some term → ((i : ℕ) → p ≤ i → i < p + n → term.power ≡ i → ⊥) → coefficients_of n p later text ≡ None
term_missed zero p later text term h apart = simp (none_left, ne_eqb (length text) 0 (λ z. omega (arith, term_filled later text term h)))
term_missed (suc n) p later text term h apart =
    other n p later text term h (λ e. apart p (omega arith) (omega arith) e)
    ∙ ap skipped (term_missed n (suc p) later text term h (λ i low high e. apart i (omega arith) (omega arith) e))

-- what is no term is in no place
pub no_term_missed : (n p : ℕ) (later : Bool) (text : List ℕ) → term_of later text ≡ None → 0 < length text → coefficients_of n p later text ≡ None
no_term_missed zero p later text h filled = simp (none_left, ne_eqb (length text) 0 (λ z. omega arith))
no_term_missed (suc n) p later text h filled = nothing n p later text h ∙ ap skipped (no_term_missed n (suc p) later text h filled)

no_term_in_nothing : (later : Bool) → term_of later [] ≡ None
unfolding term_of term_after_sign
no_term_in_nothing true = refl
no_term_in_nothing false = refl

-- at the end of the text all further coefficients are 0
pub ended : (n p : ℕ) → coefficients_of n p true [] ≡ Some (replicate n (pos 0))
ended zero p = none_left p true []
ended (suc n) p = simp (nothing n p true [] (no_term_in_nothing true), ended n (suc p))

pub not_begun : (n p : ℕ) → coefficients_of n p false [] ≡ None
not_begun zero p = none_left p false []
not_begun (suc n) p = nothing n p false [] (no_term_in_nothing false) ∙ ap skipped (not_begun n (suc p))

-- ---- coefficients that are read were written

-- the text is that of the terms of these coefficients
pub record CoefficientsRead (n p : ℕ) (later : Bool) (text : List ℕ) (cut : List ℤ) : Type 0 where
  pub coefficients : List ℤ
  pub written : terms_text later p coefficients ≡ text
  pub count : length coefficients ≡ n
  pub cut_is : map capped coefficients ≡ cut
  pub begun : later ≡ false → 0 < length text

mapped : {A B : Type 0} (f : A → B) (o : Option A) (y : B) → option_map f o ≡ Some y → (x : A) × (o ≡ Some x) × (f x ≡ y)
mapped f None y h = absurd (cc h)
mapped f (Some x) y h = (x, refl, cc h)

-- one 0 before coefficients that are read
read_nought : (n p : ℕ) (later : Bool) (text : List ℕ) (cut : List ℤ)
    → ((ds : List ℤ) → coefficients_of n (suc p) later text ≡ Some ds → CoefficientsRead n (suc p) later text ds)
    → skipped (coefficients_of n (suc p) later text) ≡ Some cut → CoefficientsRead (suc n) p later text cut
read_nought n p later text cut rest h =
    let m = mapped (λ cs. pos 0 ∷ cs) (coefficients_of n (suc p) later text) cut h in
    let r = rest m.0 m.1 in
    subst (CoefficientsRead (suc n) p later text) m.2 (record {
      coefficients = pos 0 ∷ r.coefficients;
      written = terms_nought later p (pos 0) r.coefficients refl ∙ r.written;
      count = ap suc r.count;
      cut_is = ap (λ cs. pos 0 ∷ cs) r.cut_is;
      begun = r.begun;
    })

-- a term before coefficients that are read
read_more : (n p : ℕ) (later : Bool) (text : List ℕ) (term : Term) (cut : List ℤ) → p < 42 → TermRead later text term → term.power ≡ p
    → CoefficientsRead n (suc p) true (drop term.len text) cut → CoefficientsRead (suc n) p later text (term.coefficient ∷ cut)
read_more n p later text term cut small t e r = record {
  coefficients = t.coefficient ∷ r.coefficients;
  written = terms_term later p t.coefficient r.coefficients (ne_eqb (nat_abs t.coefficient) 0 (λ z. omega (arith, t.some)))
      ∙ ap₂ (λ q w. term_text later q t.coefficient ++ w) (omega (arith, t.power_is)) r.written ∙ sym t.written;
  count = ap suc r.count;
  cut_is = ap₂ (λ c cs. c ∷ cs) (sym t.coefficient_is) r.cut_is;
  begun = λ l. filled later text term t;
}

pub coefficients_read : (n p : ℕ) (later : Bool) (text : List ℕ) (cut : List ℤ) → p + n ≤ 42 → coefficients_of n p later text ≡ Some cut → CoefficientsRead n p later text cut
coefficients_read zero p later text cut small h =
    let found = cond_some (eqb (length text) 0 && later) [] cut (sym (none_left p later text) ∙ h) in
    let parts = and_parts (eqb (length text) 0) later found.0 in
    let none : text ≡ [] = nil_from_length text (eqb-true (length text) 0 parts.0) in
    record { coefficients = []; written = terms_nil later p ∙ sym none; count = refl; cut_is = found.1; begun = λ l. absurd (true≢false (sym parts.1 ∙ l)) }
coefficients_read (suc n) p later text cut small h =
    by (term_of later text) refl (λ later' text' ds k. coefficients_read n (suc p) later' text' ds (omega arith) k)
  where
    by : (o : Option Term) → term_of later text ≡ o
        → ((later' : Bool) (text' : List ℕ) (ds : List ℤ) → coefficients_of n (suc p) later' text' ≡ Some ds → CoefficientsRead n (suc p) later' text' ds)
        → CoefficientsRead (suc n) p later text cut
    by None e rest = read_nought n p later text cut (rest later text) (sym (nothing n p later text e) ∙ h)
    by (Some term) e rest = elim (cases_Bool (eqb term.power p)) [
      | inl same ↦
          let place : term.power ≡ p = eqb-true term.power p same in
          let m = mapped (λ cs. term.coefficient ∷ cs) (coefficients_of n (suc p) true (drop term.len text)) cut (sym (here n p later text term e place) ∙ h) in
          subst (CoefficientsRead (suc n) p later text) m.2 (read_more n p later text term m.0 (omega arith) (term_read later text term e) place (rest true (drop term.len text) m.0 m.1))
      | inr apart ↦ read_nought n p later text cut (rest later text) (sym (other n p later text term e (eqb-false term.power p apart)) ∙ h)
    ]

-- ---- coefficients are read as they were written

ends_terms : (q : ℕ) (cs : List ℤ) → EndsTerm (terms_text true q cs)
ends_terms q [] = subst EndsTerm (sym (terms_nil true q)) (record { no_digit = refl; no_letter = refl })
ends_terms q (c ∷ cs) = elim (cases_Bool (eqb (nat_abs c) 0)) [
  | inl e ↦ subst EndsTerm (sym (terms_nought true q c cs e)) (ends_terms (suc q) cs)
  | inr e ↦ subst EndsTerm (sym (terms_term true q c cs e)) (sign_ends c (terms_text true (suc q) cs))
]
  where
    sign_ends : (d : ℤ) (tail : List ℕ) → EndsTerm (term_text true q d ++ tail)
    sign_ends (pos n) tail = record { no_digit = refl; no_letter = refl }
    sign_ends (negsuc n) tail = record { no_digit = refl; no_letter = refl }

is_some : (c : ℤ) → eqb (nat_abs c) 0 ≡ false → 0 < nat_abs c
is_some c e = omega (arith, eqb-false (nat_abs c) 0 e)

-- the first term of written coefficients has no lower power than the first of them
no_lower : (later : Bool) (q : ℕ) (cs : List ℤ) (term : Term) → q + length cs ≤ 42 → term_of later (terms_text later q cs) ≡ Some term → q ≤ term.power
no_lower later q [] term small h = absurd (cc (sym (no_term_in_nothing later) ∙ ap (term_of later) (sym (terms_nil later q)) ∙ h))
no_lower later q (c ∷ cs) term small h = elim (cases_Bool (eqb (nat_abs c) 0)) [
  | inl e ↦ omega (arith, no_lower later (suc q) cs term (omega arith) (ap (term_of later) (sym (terms_nought later q c cs e)) ∙ h))
  | inr e ↦
      let written = term_written later q c (terms_text true (suc q) cs) (is_some c e) (ends_terms (suc q) cs) in
      let found : Some (record { coefficient = capped c; power = min q 42; len = length (term_text later q c) }) ≡ Some term =
      sym written ∙ ap (term_of later) (sym (terms_term later q c cs e)) ∙ h in
      let power : min q 42 ≡ term.power = ap (λ (o : Option Term). elim o [ Some t ↦ t.power | None ↦ 0 ]) found in
      omega arith
]

-- a text whose first term, if any, has a higher power
skips : (n p : ℕ) (later : Bool) (text : List ℕ) (o : Option Term) → term_of later text ≡ o → ((term : Term) → term_of later text ≡ Some term → suc p ≤ term.power)
    → coefficients_of (suc n) p later text ≡ skipped (coefficients_of n (suc p) later text)
skips n p later text None e low = nothing n p later text e
skips n p later text (Some term) e low = other n p later text term e (λ z. omega (arith, low term e))

pub coefficients_written : (p : ℕ) (later : Bool) (cs : List ℤ) → p + length cs ≤ 42 → (later ≡ false → 0 < length (terms_text later p cs))
    → coefficients_of (length cs) p later (terms_text later p cs) ≡ Some (map capped cs)
coefficients_written p true [] small begun = simp (terms_nil, none_left)
coefficients_written p false [] small begun = absurd (omega (arith, ap length (terms_nil false p), begun refl))
coefficients_written p later (c ∷ cs) small begun = elim (cases_Bool (eqb (nat_abs c) 0)) [
  | inl e ↦
      let same = terms_nought later p c cs e in
      let rest = coefficients_written (suc p) later cs (omega arith) (λ l. omega (arith, begun l, ap length same)) in
      let low = λ (term : Term) (h : term_of later (terms_text later (suc p) cs) ≡ Some term). no_lower later (suc p) cs term (omega arith) h in
      rw (same, skips (length cs) p later (terms_text later (suc p) cs) (term_of later (terms_text later (suc p) cs)) refl low, rest)
      (ap (λ d. Some (capped d ∷ map capped cs)) (sym (number_nought c e)))
  | inr e ↦
      let tail = terms_text true (suc p) cs in
      let written = term_written later p c tail (is_some c e) (ends_terms (suc p) cs) in
      let rest = coefficients_written (suc p) true cs (omega arith) (λ l. absurd (true≢false l)) in
      rw (terms_term later p c cs e, here (length cs) p later (term_text later p c ++ tail) _ written (omega arith), drop-append_seam, rest)
]
