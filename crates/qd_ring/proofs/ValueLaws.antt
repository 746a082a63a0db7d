-- Texts of values: which text is that of which coefficients.
use Rattle.qd_ring.proofs.Names.{◌≡◌, ℕ, zero, suc, ◌-◌, ◌<◌, ◌≤◌, ◌^◌, min, Bool, true, false, ◌&&◌, List, [], ◌∷◌, ◌++◌, length, take, drop, map, get_or, refl, ap, sym, subst, ◌∙◌, inl, inr, arith, eqb, ltb, replicate, length-append, take-append-drop, Some, None, ℤ, pos, negsuc, neg_ℤ, nat_abs, list_all, cases_Bool, cases_lt, eqb-false, and_parts, lt-ltb, le-ltb, le-leb, lt-leb, ltb-true, map-append, drop-replicate, length-replicate, min-eq_left, length-take, ap₂, size_of, is_small, term_text, terms_text, value_text, or_nought, Spells, coefficients_of, term_of, term_after_sign}
use Rattle.std.proofs.Math.Seq.{drop-append_seam}
use Rattle.std.proofs.lemmas.List.{nil_from_length}
use Rattle.qd_ring.proofs.ValueTextLaws.{number_nought, or_nought_filled, terms_nil, terms_nought, terms_term, term_nonempty}
use Rattle.qd_ring.proofs.TermLaws.{capped}
use Rattle.qd_ring.proofs.CoefficientLaws.{coefficients_read, coefficients_written, no_term_missed}

-- ---- zeros

-- zeros at the end write nothing
terms_padded : (later : Bool) (p n : ℕ) (cs : List ℤ) → terms_text later p (cs ++ replicate n (pos 0)) ≡ terms_text later p cs
terms_padded later p zero [] = refl
terms_padded later p (suc n) [] = terms_nought later p (pos 0) (replicate n (pos 0)) refl ∙ terms_padded later (suc p) n [] ∙ terms_nil later (suc p) ∙ sym (terms_nil later p)
terms_padded later p n (c ∷ cs) = elim (cases_Bool (eqb (nat_abs c) 0)) [
  | inl e ↦ terms_nought later p c (cs ++ replicate n (pos 0)) e ∙ terms_padded later (suc p) n cs ∙ sym (terms_nought later p c cs e)
  | inr e ↦ terms_term later p c (cs ++ replicate n (pos 0)) e ∙ ap (λ t. term_text later p c ++ t) (terms_padded true (suc p) n cs) ∙ sym (terms_term later p c cs e)
]

-- coefficients that write nothing are zeros
all_nought : (later : Bool) (p : ℕ) (cs : List ℤ) → terms_text later p cs ≡ [] → cs ≡ replicate (length cs) (pos 0)
all_nought later p [] h = refl
all_nought later p (c ∷ cs) h = elim (cases_Bool (eqb (nat_abs c) 0)) [
  | inl e ↦ ap (λ d. d ∷ cs) (number_nought c e) ∙ ap (λ ds. pos 0 ∷ ds) (all_nought later (suc p) cs (sym (terms_nought later p c cs e) ∙ h))
  | inr e ↦ absurd (omega (arith, term_nonempty later p c (omega (arith, eqb-false (nat_abs c) 0 e)), length-append (term_text later p c) (terms_text true (suc p) cs), ap length (sym (terms_term later p c cs e) ∙ h)))
]

-- ---- cut magnitudes

signed_abs : (n : ℕ) → nat_abs (neg_ℤ (pos n)) ≡ n
signed_abs zero = refl
signed_abs (suc n) = refl

capped_abs : (c : ℤ) → nat_abs (capped c) ≡ min (nat_abs c) (2 ^ 120)
capped_abs (pos n) = refl
capped_abs (negsuc n) = signed_abs (min (suc n) (2 ^ 120))

capped_small : (c : ℤ) → ltb (nat_abs (capped c)) (2 ^ 120) ≡ ltb (nat_abs c) (2 ^ 120)
capped_small c = elim (cases_lt (nat_abs c) (2 ^ 120)) [
  | inl h ↦ ap (λ n. ltb n (2 ^ 120)) (capped_abs c ∙ min-eq_left (omega arith))
  | inr h ↦ ap (λ n. ltb n (2 ^ 120)) (capped_abs c) ∙ le-ltb (min (nat_abs c) (2 ^ 120)) (2 ^ 120) (omega arith) ∙ sym (le-ltb (nat_abs c) (2 ^ 120) h)
]

capped_same : (c : ℤ) → nat_abs c < 2 ^ 120 → capped c ≡ c
capped_same (pos n) h = ap pos (min-eq_left (omega arith))
capped_same (negsuc n) h = ap (λ m. neg_ℤ (pos m)) (min-eq_left (omega arith))

-- each magnitude is below 2^120
abbrev all_small : List ℤ → Bool
all_small cs = list_all (λ c. ltb (nat_abs c) (2 ^ 120)) cs

pub small_all : (cs : List ℤ) → is_small cs ≡ all_small cs
unfolding is_small size_of
small_all [] = refl
small_all (c ∷ cs) = elim (cases_lt (nat_abs c) (2 ^ 120)) [
  | inl h ↦ elim (cases_lt (size_of cs) (2 ^ 120)) [
    | inl k ↦ le-leb _ _ (omega arith) ∙ sym (ap₂ (λ a b. a && b) (lt-ltb (nat_abs c) (2 ^ 120) h) (sym (small_all cs) ∙ le-leb _ _ (omega arith)))
    | inr k ↦ lt-leb _ _ (omega arith) ∙ sym (ap₂ (λ a b. a && b) (lt-ltb (nat_abs c) (2 ^ 120) h) (sym (small_all cs) ∙ lt-leb _ _ (omega arith)))
  ]
  | inr h ↦ lt-leb _ _ (omega arith) ∙ sym (ap (λ a. a && all_small cs) (le-ltb (nat_abs c) (2 ^ 120) h))
]

all_capped : (cs : List ℤ) → all_small (map capped cs) ≡ all_small cs
all_capped [] = refl
all_capped (c ∷ cs) = ap₂ (λ a b. a && b) (capped_small c) (all_capped cs)

pub small_capped : (cs : List ℤ) → is_small (map capped cs) ≡ is_small cs
small_capped cs = small_all (map capped cs) ∙ all_capped cs ∙ sym (small_all cs)

capped_each : (cs : List ℤ) → all_small cs ≡ true → map capped cs ≡ cs
capped_each [] h = refl
capped_each (c ∷ cs) h =
    let parts = and_parts (ltb (nat_abs c) (2 ^ 120)) (all_small cs) h in
    ap₂ (λ d ds. d ∷ ds) (capped_same c (ltb-true (nat_abs c) (2 ^ 120) parts.0)) (capped_each cs parts.1)

pub capped_all : (cs : List ℤ) → is_small cs ≡ true → map capped cs ≡ cs
capped_all cs h = capped_each cs (sym (small_all cs) ∙ h)

map_zeros : (n : ℕ) → map capped (replicate n (pos 0)) ≡ replicate n (pos 0)
map_zeros zero = refl
map_zeros (suc n) = ap (λ ds. pos 0 ∷ ds) (map_zeros n)

-- ---- spelled texts

-- no term begins with 0
nought_unread : (phi : ℕ) → coefficients_of phi 0 false (48 ∷ []) ≡ None
unfolding term_of term_after_sign
nought_unread phi = no_term_missed phi 0 false (48 ∷ []) refl (omega arith)

pub nought_spelled : (phi : ℕ) → Spells (48 ∷ []) phi (replicate 42 (pos 0))
unfolding value_text
nought_spelled phi = record {
  count = refl;
  ends = drop-replicate phi 42 (pos 0);
  spelled = ap or_nought (terms_padded false 0 42 [] ∙ terms_nil false 0);
}

module _ (text : List ℕ) (phi : ℕ) (small : phi ≤ 42) (cs : List ℤ) (s : Spells text phi cs) where
  padded : cs ≡ take phi cs ++ replicate (42 - phi) (pos 0)
  padded = sym (take-append-drop phi cs) ∙ ap (λ xs. take phi cs ++ xs) s.ends

  front_count : length (take phi cs) ≡ phi
  front_count = simp length-take (omega (arith, s.count))

  front_terms : terms_text false 0 (take phi cs) ≡ terms_text false 0 cs
  front_terms = sym (terms_padded false 0 (42 - phi) (take phi cs)) ∙ ap (terms_text false 0) (sym padded)

  -- a text with a term is read
  read_some : 0 < length (terms_text false 0 cs) → coefficients_of phi 0 false text ≡ Some (map capped (take phi cs))
  unfolding value_text
  read_some h =
      let filled : or_nought (terms_text false 0 cs) ≡ terms_text false 0 cs = or_nought_filled (terms_text false 0 cs) h in
      ap (coefficients_of phi 0 false) (sym s.spelled ∙ filled ∙ sym front_terms)
      ∙ rw front_count at (coefficients_written 0 false (take phi cs) (omega (arith, front_count)) (λ l. omega (arith, h, ap length front_terms)))

  -- a text with none is `0`
  none_some : length (terms_text false 0 cs) ≡ 0 → (text ≡ 48 ∷ []) × (cs ≡ replicate 42 (pos 0))
  unfolding value_text
  none_some h =
      let none : terms_text false 0 cs ≡ [] = nil_from_length (terms_text false 0 cs) h in
      (sym s.spelled ∙ ap or_nought none, all_nought false 0 cs none ∙ ap (λ n. replicate n (pos 0)) s.count)

-- the capped coefficients of a text are determined
module _ (text : List ℕ) (phi : ℕ) (small : phi ≤ 42) where
  capped_front : (cs ds : List ℤ) → Spells text phi cs → map capped (take phi cs) ≡ ds → map capped cs ≡ ds ++ replicate (42 - phi) (pos 0)
  capped_front cs ds s h =
      ap (map capped) (padded text phi small cs s) ∙ map-append capped (take phi cs) (replicate (42 - phi) (pos 0)) ∙ ap₂ (λ xs ys. xs ++ ys) h (map_zeros (42 - phi))

  -- coefficients of one text agree up to the cut
  pub agree : (cs ds : List ℤ) → Spells text phi cs → Spells text phi ds → map capped cs ≡ map capped ds
  agree cs ds s t = elim (cases_lt 0 (length (terms_text false 0 cs))) [
    | inl c ↦ elim (cases_lt 0 (length (terms_text false 0 ds))) [
      | inl d ↦
          let same : map capped (take phi cs) ≡ map capped (take phi ds) = cc (sym (read_some text phi small cs s c) ∙ read_some text phi small ds t d) in
          capped_front cs (map capped (take phi ds)) s same ∙ sym (capped_front ds (map capped (take phi ds)) t refl)
      | inr d ↦
          let none : coefficients_of phi 0 false text ≡ None = ap (coefficients_of phi 0 false) (none_some text phi small ds t (omega arith)).0 ∙ nought_unread phi in
          absurd (cc (sym none ∙ read_some text phi small cs s c))
    ]
    | inr c ↦ elim (cases_lt 0 (length (terms_text false 0 ds))) [
      | inl d ↦
          let none : coefficients_of phi 0 false text ≡ None = ap (coefficients_of phi 0 false) (none_some text phi small cs s (omega arith)).0 ∙ nought_unread phi in
          absurd (cc (sym none ∙ read_some text phi small ds t d))
      | inr d ↦ ap (map capped) ((none_some text phi small cs s (omega arith)).1 ∙ sym (none_some text phi small ds t (omega arith)).1)
    ]
  ]

  pub agree_small : (cs ds : List ℤ) → Spells text phi cs → Spells text phi ds → is_small cs ≡ is_small ds
  agree_small cs ds s t = sym (small_capped cs) ∙ ap is_small (agree cs ds s t) ∙ small_capped ds

  -- small coefficients of one text are equal
  pub agree_equal : (cs ds : List ℤ) → Spells text phi cs → Spells text phi ds → is_small cs ≡ true → cs ≡ ds
  agree_equal cs ds s t h =
      sym (capped_all cs h) ∙ agree cs ds s t ∙ capped_all ds (sym (agree_small cs ds s t) ∙ h)

  -- ---- what the reader found

  -- where nothing is read, the text is that of no coefficients but `0`
  pub unread : (text ≡ 48 ∷ [] → ⊥) → coefficients_of phi 0 false text ≡ None → (cs : List ℤ) → Spells text phi cs → ⊥
  unread apart none cs s = elim (cases_lt 0 (length (terms_text false 0 cs))) [
    | inl c ↦ cc (sym none ∙ read_some text phi small cs s c)
    | inr c ↦ apart (none_some text phi small cs s (omega arith)).0
  ]

  -- where something is read, the text is that of coefficients which were cut
  pub found : (ds : List ℤ) → length ds ≡ 42 → drop phi ds ≡ replicate (42 - phi) (pos 0) → coefficients_of phi 0 false text ≡ Some (take phi ds)
      → (cs : List ℤ) × Spells text phi cs × (map capped cs ≡ ds)
  unfolding value_text
  found ds count zeros h =
      let r = coefficients_read phi 0 false text (take phi ds) (omega arith) h in
      let cs = r.coefficients ++ replicate (42 - phi) (pos 0) in
      let terms : terms_text false 0 cs ≡ text = terms_padded false 0 (42 - phi) r.coefficients ∙ r.written in (
        cs,
        record {
          count = length-append r.coefficients (replicate (42 - phi) (pos 0)) ∙ omega (arith, r.count, length-replicate (42 - phi) (pos 0));
          ends = ap (λ n. drop n cs) (sym r.count) ∙ drop-append_seam r.coefficients (replicate (42 - phi) (pos 0));
          spelled = ap or_nought terms ∙ or_nought_filled text (r.begun refl);
        },
        map-append capped r.coefficients (replicate (42 - phi) (pos 0)) ∙ ap₂ (λ xs ys. xs ++ ys) r.cut_is (map_zeros (42 - phi) ∙ sym zeros) ∙ take-append-drop phi ds,
      )

  pub found_small : (ds : List ℤ) → length ds ≡ 42 → drop phi ds ≡ replicate (42 - phi) (pos 0) → coefficients_of phi 0 false text ≡ Some (take phi ds) → is_small ds ≡ true → Spells text phi ds
  found_small ds count zeros h few =
      let f = found ds count zeros h in
      let same : f.0 ≡ ds = sym (capped_all f.0 (sym (small_capped f.0) ∙ ap is_small f.2 ∙ few)) ∙ f.2 in
      subst (Spells text phi) same f.1

  pub found_wide : (ds : List ℤ) → length ds ≡ 42 → drop phi ds ≡ replicate (42 - phi) (pos 0) → coefficients_of phi 0 false text ≡ Some (take phi ds) → is_small ds ≡ false
      → (cs : List ℤ) × Spells text phi cs × (is_small cs ≡ false)
  found_wide ds count zeros h many = let f = found ds count zeros h in (f.0, f.1, sym (small_capped f.0) ∙ ap is_small f.2 ∙ many)

pub one_byte : (text : List ℕ) → length text ≡ 1 → get_or text 0 0 ≡ 48 → text ≡ 48 ∷ []
one_byte [] h e = absurd (omega arith)
one_byte (x ∷ []) h e = ap (λ c. c ∷ []) e
one_byte (x ∷ y ∷ text) h e = absurd (omega arith)

pub nought_small : is_small (replicate 42 (pos 0)) ≡ true
nought_small = small_all (replicate 42 (pos 0))
