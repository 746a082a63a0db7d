-- Elements and places.
use Rattle.twisted.proofs.Names.{◌≡◌, ◌≢◌, ℕ, ◌<◌, true, false, nat_eq, Option, Some, None, sym, ap, ◌∙◌, arith, eqb-true, IfSome, IfNone, eq-eqb, first_none-at, first_some, let_through, kept_out, TwistedSubgroup, size, element, place_of}

-- at the place that is found stands the element
pub place_there : (s : TwistedSubgroup) (x : ℕ) (o : Option ℕ) → o ≡ place_of s x → IfSome o (λ p. (p < size s) × (element s p ≡ x))
place_there s x None e = tt
place_there s x (Some p) e =
    let f = first_some (size s) _ p (sym e) in
    let here = let_through (nat_eq (element s f.place) x) f.place p f.here in
    let same : f.place ≡ p = here.1 in
    let below : f.place < size s = f.below in
    (omega arith, ap (element s) (sym same) ∙ eqb-true _ _ here.0)

-- where no place is found, the element stands nowhere
pub place_absent : (s : TwistedSubgroup) (x : ℕ) (o : Option ℕ) → o ≡ place_of s x → IfNone o ((p : ℕ) → p < size s → element s p ≢ x)
place_absent s x (Some p) e = tt
place_absent s x None e = λ p below stands.
    let out : nat_eq (element s p) x ≡ false = kept_out (nat_eq (element s p) x) p (first_none-at (size s) p _ (sym e) below) in
    let in_ : nat_eq (element s p) x ≡ true = eq-eqb (element s p) x stands in
    cc
