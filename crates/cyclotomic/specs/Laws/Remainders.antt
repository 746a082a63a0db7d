-- Laws of remainders by a monic polynomial as lists: their length, and that each step is linear.
use Rattle.std.proofs.Common.{◌≡◌, ℕ, suc, ◌+◌, List, [], ◌∷◌, ◌++◌, length, refl, sym, ap, ◌∙◌, arith, zero-add, add-zero, length-append, append-nil}
use Rattle.std.specs.Prelude.{ℤ, pos, neg_ℤ}
use mathlib.Core.Path.{ap₂}
use borrow.Author.Differences.{up}
use Rattle.cyclotomic.specs.Polynomial.{zeros, plus, scaled, leading, lower}
use Rattle.cyclotomic.specs.Division.{degree, cancelled, division, remainder}
use Rattle.cyclotomic.specs.Laws.Integers as Z
use Rattle.cyclotomic.specs.Laws.Polynomials.{plus_assoc, plus_left_comm, scaled-plus, scaled-sum, scaled-product, length-plus, length-scaled, length-lower, length-zeros, leading-plus, lower-plus, leading-scaled, lower-scaled, plus-zeros, scaled-zero, leading-padded, lower-padded}

pub zero_not_one : pos 0 ≡ pos 1 → ⊥
zero_not_one e = let f : 0 ≡ 1 = ap up e in absurd (omega (arith, f))

pub remainder-nil : (m : List ℤ) → remainder m [] ≡ zeros (degree m)
unfolding division remainder
remainder-nil m = refl

pub remainder-cons : (m : List ℤ) (a : ℤ) (p : List ℤ) → remainder m (a ∷ p) ≡ cancelled m (a ∷ remainder m p)
unfolding division remainder
remainder-cons m a p = refl

pub length-cancelled : (m : List ℤ) (a : ℤ) (r : List ℤ) → length r ≡ degree m → length (cancelled m (a ∷ r)) ≡ degree m
unfolding cancelled
length-cancelled m a r e =
    let low : length (lower (a ∷ r)) ≡ degree m = length-lower a r ∙ e in
    length-plus (lower (a ∷ r)) (scaled (neg_ℤ (leading (a ∷ r))) (lower m))
    (low ∙ sym (length-scaled (neg_ℤ (leading (a ∷ r))) (lower m))) ∙ low

pub length-remainder : (m p : List ℤ) → length (remainder m p) ≡ degree m
length-remainder m [] = ap length (remainder-nil m) ∙ length-zeros (degree m)
length-remainder m (a ∷ p) =
    ap length (remainder-cons m a p) ∙ length-cancelled m a (remainder m p) (length-remainder m p)

-- ---- a step is linear in lists of one length
pub cancelled-plus : (m s t : List ℤ) → length s ≡ length t → cancelled m (plus s t) ≡ plus (cancelled m s) (cancelled m t)
unfolding cancelled
cancelled-plus m s t e =
    let low = lower m in
    ap₂ (λ x y. plus x (scaled (neg_ℤ y) low)) (lower-plus s t e) (leading-plus s t e)
    ∙ ap (λ y. plus (plus (lower s) (lower t)) (scaled y low)) (Z.neg_plus (leading s) (leading t))
    ∙ ap (plus (plus (lower s) (lower t))) (scaled-sum (neg_ℤ (leading s)) (neg_ℤ (leading t)) low)
    ∙ simp (plus_assoc, plus_left_comm)

pub cancelled-scaled : (m : List ℤ) (c : ℤ) (t : List ℤ) → cancelled m (scaled c t) ≡ scaled c (cancelled m t)
unfolding cancelled
cancelled-scaled m c t =
    let low = lower m in
    ap₂ (λ x y. plus x (scaled (neg_ℤ y) low)) (lower-scaled c t) (leading-scaled c t)
    ∙ ap (λ y. plus (scaled c (lower t)) (scaled y low)) (sym (Z.times_neg c (leading t)))
    ∙ ap (plus (scaled c (lower t))) (scaled-product c (neg_ℤ (leading t)) low)
    ∙ sym (scaled-plus c (lower t) (scaled (neg_ℤ (leading t)) low))

-- a step on a list whose last coefficient is 0 only drops it
pub cancelled-nothing : (m : List ℤ) (a : ℤ) (r : List ℤ) → length r ≡ degree m → leading (a ∷ r) ≡ pos 0 → cancelled m (a ∷ r) ≡ lower (a ∷ r)
unfolding cancelled
cancelled-nothing m a r e z =
    ap (λ y. plus (lower (a ∷ r)) (scaled (neg_ℤ y) (lower m))) z
    ∙ ap (plus (lower (a ∷ r))) (scaled-zero (lower m))
    ∙ plus-zeros (lower (a ∷ r)) (degree m) (length-lower a r ∙ e)

-- a polynomial below the degree is its own remainder, with zeros
pub remainder-short : (m p : List ℤ) (k : ℕ) → length p + k ≡ degree m → remainder m p ≡ p ++ zeros k
remainder-short m [] k e = remainder-nil m ∙ ap zeros (sym e ∙ zero-add k)
remainder-short m (a ∷ p) k e =
    let longer : length p + suc k ≡ degree m = omega (arith, e) in
    let rest : length (p ++ zeros (suc k)) ≡ degree m =
    length-append p (zeros (suc k)) ∙ ap (λ z. length p + z) (length-zeros (suc k)) ∙ longer in
    remainder-cons m a p ∙ ap (λ z. cancelled m (a ∷ z)) (remainder-short m p (suc k) longer)
    ∙ cancelled-nothing m a (p ++ zeros (suc k)) rest (leading-padded (a ∷ p) k)
    ∙ lower-padded (a ∷ p) k

pub remainder-itself : (m p : List ℤ) → length p ≡ degree m → remainder m p ≡ p
remainder-itself m p e = remainder-short m p 0 (add-zero (length p) ∙ e) ∙ append-nil p
