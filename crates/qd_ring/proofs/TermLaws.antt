-- Terms of a value, written and read.
use Rattle.qd_ring.proofs.Names.{◌≡◌, ℕ, zero, suc, ◌+◌, ◌^◌, ◌<◌, min, Bool, true, false, ◌&&◌, List, [], ◌∷◌, ◌++◌, length, take, drop, get_or, refl, ap, sym, subst, ◌∙◌, arith, leb, eqb, cond, length-append, take-append-drop, Some, None, one-add, zero-add, ℤ, pos, negsuc, nat_abs, option_and_then, prefix_len, and_parts, and_from, le-leb, leb-true, eqb-true, ne_eqb, append_assoc, drop-drop, Term, numeral, sign_text, power_text, term_text, is_digit, number, signed, numeral_len, power_of, term_after_sign, term_of}
use Rattle.std.proofs.Math.Nat.{add_assoc}
use Rattle.std.proofs.Math.Seq.{drop-append-add, drop-append_seam, take-append_seam}
use Rattle.std.proofs.lemmas.List.{get_or_append_left}
use Rattle.std.proofs.lemmas.Option.{cond_some, option_and_then_some, same_Some}
use Rattle.qd_ring.proofs.ValueTextLaws.{numeral_nonempty}
use Rattle.qd_ring.proofs.NumeralLaws.{IsLeading, digits_numeral, number_numeral, leading_numeral, numeral_number, number_positive, digits_front, digits_taken}

-- a whole number whose magnitude is cut at 2^120
abbrev pub capped : ℤ → ℤ
capped (pos n) = pos (min n (2 ^ 120))
capped (negsuc n) = signed true (min (suc n) (2 ^ 120))

-- what may stand after a term: nothing, or the sign of another
pub record EndsTerm (tail : List ℕ) : Type 0 where
  pub no_digit : is_digit (get_or tail 0 0) ≡ false
  pub no_letter : eqb (get_or tail 0 0) 122 ≡ false

-- ---- a written term is read

numeral_len_written : (n : ℕ) (tail : List ℕ) → 0 < n → is_digit (get_or tail 0 0) ≡ false
    → numeral_len (numeral n ++ tail) ≡ Some (length (numeral n))
numeral_len_written n tail p ends =
    let lead = leading_numeral n p in
    simp
    (get_or_append_left (numeral n) tail 0 0 (numeral_nonempty n p), le-leb 49 _ lead.low, le-leb _ 57 lead.high, digits_front (numeral n) tail (digits_numeral n p) ends)

power_written : (p : ℕ) (tail : List ℕ) → EndsTerm tail → power_of (power_text p ++ tail) ≡ Some (min p 42, length (power_text p))
power_written zero tail ends = simp ends.no_letter
power_written (suc p) tail ends =
    let read : number (take (length (numeral (suc p))) (numeral (suc p) ++ tail)) ≡ suc p =
    simp (take-append_seam, number_numeral (suc p) (omega arith)) in
    simp (numeral_len_written (suc p) tail (omega arith) ends.no_digit, one-add) (ap (λ k. Some (min k 42, suc (length (numeral (suc p))))) read)

-- the power's text begins with no digit
power_ends : (p : ℕ) (tail : List ℕ) → EndsTerm tail → is_digit (get_or (power_text p ++ tail) 0 0) ≡ false
power_ends zero tail ends = ends.no_digit
power_ends (suc p) tail ends = refl

-- what follows a sign
after_sign_written : (negative : Bool) (sign n p : ℕ) (tail : List ℕ) → 0 < n → EndsTerm tail
    → term_after_sign negative sign ((numeral n ++ power_text p) ++ tail)
    ≡ Some (record { coefficient = signed negative (min n (2 ^ 120)); power = min p 42; len = sign + length (numeral n ++ power_text p) })
unfolding term_after_sign
after_sign_written negative sign n p tail positive ends =
    simp
    (append_assoc, numeral_len_written n (power_text p ++ tail) positive (power_ends p tail ends), drop-append_seam, power_written p tail ends, take-append_seam, number_numeral n positive, length-append, add_assoc)

-- a term is read as it was written
pub term_written : (later : Bool) (p : ℕ) (c : ℤ) (tail : List ℕ) → 0 < nat_abs c → EndsTerm tail →
    term_of later (term_text later p c ++ tail) ≡ Some (record { coefficient = capped c; power = min p 42; len = length (term_text later p c) })
unfolding term_of
term_written later p (negsuc n) tail positive ends = simp one-add at (after_sign_written true 1 (suc n) p tail (omega arith) ends)
term_written true p (pos n) tail positive ends = simp one-add at (after_sign_written false 1 n p tail positive ends)
term_written false p (pos n) tail positive ends =
    let text : List ℕ = numeral n ++ power_text p in
    let filled = numeral_nonempty n positive in
    let first : get_or (text ++ tail) 0 0 ≡ get_or (numeral n) 0 0 =
    get_or_append_left text tail 0 0 (simp length-append (omega arith)) ∙ get_or_append_left (numeral n) (power_text p) 0 0 filled in
    let unsigned : eqb (get_or (text ++ tail) 0 0) 45 ≡ false = ne_eqb _ 45 (λ e. omega (arith, first, e, (leading_numeral n positive).low)) in
    simp unsigned (simp zero-add at (after_sign_written false 0 n p tail positive ends))

-- ---- a term that is read was written

-- the bytes at the front are those of this term
pub record TermRead (later : Bool) (text : List ℕ) (term : Term) : Type 0 where
  pub power : ℕ
  pub coefficient : ℤ
  pub written : text ≡ term_text later power coefficient ++ drop term.len text
  pub some : 0 < nat_abs coefficient
  pub power_is : term.power ≡ min power 42
  pub coefficient_is : term.coefficient ≡ capped coefficient
  pub longer : 0 < term.len

-- a numeral at the front
record NumeralRead (text : List ℕ) (digits : ℕ) : Type 0 where
  spelled : numeral (number (take digits text)) ≡ take digits text
  positive : 0 < number (take digits text)
  filled : 0 < digits

numeral_read : (text : List ℕ) (digits : ℕ) → numeral_len text ≡ Some digits → NumeralRead text digits
numeral_read [] digits h = absurd (cc h)
numeral_read (c ∷ text) digits h =
    let found = cond_some (leb 49 c && leb c 57) (prefix_len is_digit (c ∷ text)) digits h in
    let parts = and_parts (leb 49 c) (leb c 57) found.0 in
    let lead : IsLeading c = record { low = leb-true 49 c parts.0; high = leb-true c 57 parts.1 } in
    let digit : is_digit c ≡ true = and_from (leb 48 c) (leb c 57) (le-leb 48 c (omega (arith, lead.low))) parts.1 in
    let count : suc (prefix_len is_digit text) ≡ digits = sym (simp (digit, one-add)) ∙ found.1 in
    subst (NumeralRead (c ∷ text)) count (record {
      spelled = numeral_number c (take (prefix_len is_digit text) text) lead (digits_taken text);
      positive = number_positive c (take (prefix_len is_digit text) text) lead;
      filled = omega arith;
    })

-- a power at the front
record PowerRead (text : List ℕ) (power : ℕ × ℕ) : Type 0 where
  exact : ℕ
  spelled : text ≡ power_text exact ++ drop power.1 text
  is : power.0 ≡ min exact 42

power_text_positive : (p : ℕ) → 0 < p → power_text p ≡ 122 ∷ numeral p
power_text_positive zero h = absurd (omega arith)
power_text_positive (suc p) h = refl

power_read : (text : List ℕ) (power : ℕ × ℕ) → power_of text ≡ Some power → PowerRead text power
power_read [] power h = subst (PowerRead []) (same_Some (0, 0) power h) (record { exact = 0; spelled = refl; is = refl })
power_read (c ∷ rest) power h = by (eqb c 122) refl h
  where
    by : (b : Bool) → eqb c 122 ≡ b
        → cond b (option_and_then (λ digits. Some (min (number (take digits rest)) 42, 1 + digits)) (numeral_len rest)) (Some (0, 0)) ≡ Some power
        → PowerRead (c ∷ rest) power
    by true e k = option_and_then_some _ (numeral_len rest) power k (λ digits n m.
        let front = numeral_read rest digits n in
        subst (PowerRead (c ∷ rest)) (same_Some _ power m) (record {
          exact = number (take digits rest);
          spelled = simp (power_text_positive (number (take digits rest)) front.positive, front.spelled, one-add, eqb-true c 122 e)
              (ap (λ xs. 122 ∷ xs) (sym (take-append-drop digits rest)));
          is = refl;
        }))
    by false e k = subst (PowerRead (c ∷ rest)) (same_Some (0, 0) power k) (record { exact = 0; spelled = refl; is = refl })

-- what follows a sign
record AfterSign (negative : Bool) (sign : ℕ) (rest : List ℕ) (term : Term) : Type 0 where
  magnitude : ℕ
  power : ℕ
  taken : ℕ
  spelled : rest ≡ numeral magnitude ++ (power_text power ++ drop taken rest)
  positive : 0 < magnitude
  coefficient_is : term.coefficient ≡ signed negative (min magnitude (2 ^ 120))
  power_is : term.power ≡ min power 42
  len_is : term.len ≡ sign + taken
  longer : 0 < taken

after_sign_read : (negative : Bool) (sign : ℕ) (rest : List ℕ) (term : Term) → term_after_sign negative sign rest ≡ Some term
    → AfterSign negative sign rest term
unfolding term_after_sign
after_sign_read negative sign rest term h =
    option_and_then_some _ (numeral_len rest) term h (λ digits n k. option_and_then_some _ (power_of (drop digits rest)) term k (λ power q m.
    let front = numeral_read rest digits n in
    let back = power_read (drop digits rest) power q in
    subst (AfterSign negative sign rest) (same_Some _ term m) (record {
      magnitude = number (take digits rest);
      power = back.exact;
      taken = digits + power.1;
      spelled = simp (front.spelled, ← (drop-drop power.1 digits rest), ← back.spelled, take-append-drop);
      positive = front.positive;
      coefficient_is = refl;
      power_is = back.is;
      len_is = omega arith;
      longer = omega (arith, front.filled);
    })))

-- a term with the sign of c
assembled : (later negative : Bool) (rest : List ℕ) (c : ℤ) (term : Term) (a : AfterSign negative (length (sign_text later c)) rest term)
    → nat_abs c ≡ a.magnitude → signed negative (min a.magnitude (2 ^ 120)) ≡ capped c → TermRead later (sign_text later c ++ rest) term
assembled later negative rest c term a magnitude_is cut = record {
  power = a.power;
  coefficient = c;
  written = simp (a.len_is, drop-append-add, append_assoc, magnitude_is, ← a.spelled);
  some = omega (arith, a.positive, magnitude_is);
  power_is = a.power_is;
  coefficient_is = a.coefficient_is ∙ cut;
  longer = omega (arith, a.len_is, a.longer);
}

-- a minus sign at the front
minus_read : (later : Bool) (rest : List ℕ) (term : Term) → AfterSign true 1 rest term → TermRead later (45 ∷ rest) term
minus_read later rest term a = by a.magnitude refl a.positive
  where
    by : (m : ℕ) → a.magnitude ≡ m → 0 < a.magnitude → TermRead later (45 ∷ rest) term
    by zero e h = absurd (omega arith)
    by (suc m) e h = assembled later true rest (negsuc m) term a (sym e) (ap (λ k. signed true (min k (2 ^ 120))) e)

unsigned_read : (text : List ℕ) (term : Term) → AfterSign false 0 text term → TermRead false text term
unsigned_read text term a = assembled false false text (pos a.magnitude) term a refl refl

-- a term that is read was written
pub term_read : (later : Bool) (text : List ℕ) (term : Term) → term_of later text ≡ Some term → TermRead later text term
unfolding term_of
term_read true [] term h = absurd (cc h)
term_read false [] term h = unsigned_read [] term (after_sign_read false 0 [] term h)
term_read later (c ∷ rest) term h = by later (eqb c 45) refl (eqb c 43) refl h
  where
    by : (l minus : Bool) → eqb c 45 ≡ minus → (plus : Bool) → eqb c 43 ≡ plus
        → option_and_then (λ sign. term_after_sign minus sign (drop sign (c ∷ rest))) (cond minus (Some 1) (cond l (cond plus (Some 1) None) (Some 0)))
        ≡ Some term → TermRead l (c ∷ rest) term
    by l true e plus q k = subst (λ x. TermRead l (x ∷ rest) term) (sym (eqb-true c 45 e)) (minus_read l rest term (after_sign_read true 1 rest term k))
    by true false e true q k =
        let a = after_sign_read false 1 rest term k in
        subst (λ x. TermRead true (x ∷ rest) term) (sym (eqb-true c 43 q)) (assembled true false rest (pos a.magnitude) term a refl refl)
    by true false e false q k = absurd (cc k)
    by false false e plus q k = unsigned_read (c ∷ rest) term (after_sign_read false 0 (c ∷ rest) term k)
