-- Laws of sums and multiples of lists of coefficients, and of their last coefficient and the others.
use Rattle.std.proofs.Common.{◌≡◌, ℕ, zero, suc, pred, List, [], ◌∷◌, ◌++◌, length, refl, sym, ap, ◌∙◌, arith}
use Rattle.std.specs.Prelude.{ℤ, pos, negsuc, ◌+ℤ◌, ◌*ℤ◌}
use Rattle.std.proofs.lemmas.List.{length-replicate}
use mathlib.Core.Path.{ap₂}
use Rattle.cyclotomic.specs.Polynomial.{zeros, plus, scaled, leading, lower}
use Rattle.cyclotomic.specs.Laws.Integers as Z

-- ---- sums
pub plus-nil : (p : List ℤ) → plus p [] ≡ p
unfolding plus
plus-nil [] = refl
plus-nil (a ∷ p) = refl

pub plus-cons : (a b : ℤ) (p q : List ℤ) → plus (a ∷ p) (b ∷ q) ≡ (a +ℤ b) ∷ plus p q
unfolding plus
plus-cons a b p q = refl

pub plus_comm : (p q : List ℤ) → plus p q ≡ plus q p
unfolding plus
plus_comm [] q = sym (plus-nil q)
plus_comm (a ∷ p) [] = refl
plus_comm (a ∷ p) (b ∷ q) = ap₂ (λ x y. x ∷ y) (Z.plus_comm a b) (plus_comm p q)

pub plus_assoc : (p q r : List ℤ) → plus (plus p q) r ≡ plus p (plus q r)
unfolding plus
plus_assoc [] q r = refl
plus_assoc (a ∷ p) [] r = refl
plus_assoc (a ∷ p) (b ∷ q) [] = refl
plus_assoc (a ∷ p) (b ∷ q) (c ∷ r) = ap₂ (λ x y. x ∷ y) (Z.plus_assoc a b c) (plus_assoc p q r)

pub plus_left_comm : (p q r : List ℤ) → plus p (plus q r) ≡ plus q (plus p r)
plus_left_comm p q r = sym (plus_assoc p q r) ∙ ap (λ z. plus z r) (plus_comm p q) ∙ plus_assoc q p r

pub length-plus : (p q : List ℤ) → length p ≡ length q → length (plus p q) ≡ length p
unfolding plus
length-plus [] [] e = refl
length-plus [] (b ∷ q) e = absurd (omega (arith, e))
length-plus (a ∷ p) [] e = refl
length-plus (a ∷ p) (b ∷ q) e = ap suc (length-plus p q (ap pred e))

-- ---- multiples
pub scaled-cons : (c a : ℤ) (p : List ℤ) → scaled c (a ∷ p) ≡ (c *ℤ a) ∷ scaled c p
unfolding scaled
scaled-cons c a p = refl

pub length-scaled : (c : ℤ) (p : List ℤ) → length (scaled c p) ≡ length p
unfolding scaled
length-scaled c [] = refl
length-scaled c (a ∷ p) = ap suc (length-scaled c p)

pub scaled-plus : (c : ℤ) (p q : List ℤ) → scaled c (plus p q) ≡ plus (scaled c p) (scaled c q)
unfolding plus scaled
scaled-plus c [] q = refl
scaled-plus c (a ∷ p) [] = refl
scaled-plus c (a ∷ p) (b ∷ q) = ap₂ (λ x y. x ∷ y) (Z.times_plus c a b) (scaled-plus c p q)

pub scaled-sum : (a b : ℤ) (p : List ℤ) → scaled (a +ℤ b) p ≡ plus (scaled a p) (scaled b p)
unfolding plus scaled
scaled-sum a b [] = refl
scaled-sum a b (c ∷ p) = ap₂ (λ x y. x ∷ y) (Z.plus_times a b c) (scaled-sum a b p)

pub scaled-product : (a b : ℤ) (p : List ℤ) → scaled (a *ℤ b) p ≡ scaled a (scaled b p)
unfolding scaled
scaled-product a b [] = refl
scaled-product a b (c ∷ p) = ap₂ (λ x y. x ∷ y) (Z.times_assoc a b c) (scaled-product a b p)

pub scaled-one : (p : List ℤ) → scaled (pos 1) p ≡ p
unfolding scaled
scaled-one [] = refl
scaled-one (a ∷ p) = ap₂ (λ x y. x ∷ y) (Z.one_times a) (scaled-one p)

pub scaled-zero : (p : List ℤ) → scaled (pos 0) p ≡ zeros (length p)
unfolding scaled
scaled-zero [] = refl
scaled-zero (a ∷ p) = ap₂ (λ x y. x ∷ y) (Z.zero_times a) (scaled-zero p)

pub scaled-zeros : (c : ℤ) (n : ℕ) → scaled c (zeros n) ≡ zeros n
unfolding scaled
scaled-zeros c zero = refl
scaled-zeros c (suc n) = ap₂ (λ x y. x ∷ y) (Z.times_zero c) (scaled-zeros c n)

pub plus-zeros : (p : List ℤ) (n : ℕ) → length p ≡ n → plus p (zeros n) ≡ p
unfolding plus
plus-zeros [] zero e = refl
plus-zeros [] (suc n) e = absurd (omega (arith, e))
plus-zeros (a ∷ p) zero e = refl
plus-zeros (a ∷ p) (suc n) e = ap₂ (λ x y. x ∷ y) (Z.plus_zero a) (plus-zeros p n (ap pred e))

pub length-zeros : (n : ℕ) → length (zeros n) ≡ n
length-zeros n = length-replicate n (pos 0)

pub plus-opposite : (p : List ℤ) → plus p (scaled (negsuc 0) p) ≡ zeros (length p)
unfolding plus scaled
plus-opposite [] = refl
plus-opposite (a ∷ p) =
    ap₂ (λ x y. x ∷ y) (ap (λ z. a +ℤ z) (Z.minus_one_times a) ∙ Z.plus_neg a) (plus-opposite p)

-- ---- the last coefficient and the others
pub length-lower : (a : ℤ) (p : List ℤ) → length (lower (a ∷ p)) ≡ length p
unfolding lower
length-lower a [] = refl
length-lower a (b ∷ p) = ap suc (length-lower b p)

pub leading-nil : leading [] ≡ pos 0
unfolding leading
leading-nil = refl

pub leading-plus : (p q : List ℤ) → length p ≡ length q → leading (plus p q) ≡ leading p +ℤ leading q
unfolding plus leading
leading-plus [] [] e = refl
leading-plus [] (b ∷ q) e = absurd (omega (arith, e))
leading-plus (a ∷ p) [] e = absurd (omega (arith, e))
leading-plus (a ∷ []) (b ∷ []) e = refl
leading-plus (a ∷ []) (b ∷ d ∷ q) e = absurd (omega (arith, e))
leading-plus (a ∷ c ∷ p) (b ∷ []) e = absurd (omega (arith, e))
leading-plus (a ∷ c ∷ p) (b ∷ d ∷ q) e = leading-plus (c ∷ p) (d ∷ q) (ap pred e)

pub lower-plus : (p q : List ℤ) → length p ≡ length q → lower (plus p q) ≡ plus (lower p) (lower q)
unfolding plus lower
lower-plus [] [] e = refl
lower-plus [] (b ∷ q) e = absurd (omega (arith, e))
lower-plus (a ∷ p) [] e = absurd (omega (arith, e))
lower-plus (a ∷ []) (b ∷ []) e = refl
lower-plus (a ∷ []) (b ∷ d ∷ q) e = absurd (omega (arith, e))
lower-plus (a ∷ c ∷ p) (b ∷ []) e = absurd (omega (arith, e))
lower-plus (a ∷ c ∷ p) (b ∷ d ∷ q) e = ap (λ y. (a +ℤ b) ∷ y) (lower-plus (c ∷ p) (d ∷ q) (ap pred e))

pub leading-scaled : (c : ℤ) (p : List ℤ) → leading (scaled c p) ≡ c *ℤ leading p
unfolding scaled leading
leading-scaled c [] = sym (Z.times_zero c)
leading-scaled c (a ∷ []) = refl
leading-scaled c (a ∷ b ∷ p) = leading-scaled c (b ∷ p)

pub lower-scaled : (c : ℤ) (p : List ℤ) → lower (scaled c p) ≡ scaled c (lower p)
unfolding scaled lower
lower-scaled c [] = refl
lower-scaled c (a ∷ []) = refl
lower-scaled c (a ∷ b ∷ p) = ap (λ y. (c *ℤ a) ∷ y) (lower-scaled c (b ∷ p))

pub leading-zeros : (n : ℕ) → leading (zeros n) ≡ pos 0
unfolding leading
leading-zeros zero = refl
leading-zeros (suc zero) = refl
leading-zeros (suc (suc n)) = leading-zeros (suc n)

pub lower-zeros : (n : ℕ) → lower (zeros (suc n)) ≡ zeros n
unfolding lower
lower-zeros zero = refl
lower-zeros (suc n) = ap (λ y. pos 0 ∷ y) (lower-zeros n)

-- ---- lists with zeros at the end
pub leading-padded : (p : List ℤ) (k : ℕ) → leading (p ++ zeros (suc k)) ≡ pos 0
unfolding leading
leading-padded [] k = leading-zeros (suc k)
leading-padded (a ∷ []) k = leading-zeros (suc k)
leading-padded (a ∷ b ∷ p) k = leading-padded (b ∷ p) k

pub lower-padded : (p : List ℤ) (k : ℕ) → lower (p ++ zeros (suc k)) ≡ p ++ zeros k
unfolding lower
lower-padded [] k = lower-zeros k
lower-padded (a ∷ []) k = ap (λ y. a ∷ y) (lower-zeros k)
lower-padded (a ∷ b ∷ p) k = ap (λ y. a ∷ y) (lower-padded (b ∷ p) k)

-- a list from its first coefficient and the others
pub first_and_rest : (a : ℤ) (p : List ℤ) (n : ℕ) → length p ≡ n → plus (scaled a (pos 1 ∷ zeros n)) (pos 0 ∷ p) ≡ a ∷ p
first_and_rest a p n e =
    ap (λ z. plus z (pos 0 ∷ p)) (scaled-cons a (pos 1) (zeros n) ∙ ap (λ z. (a *ℤ pos 1) ∷ z) (scaled-zeros a n))
    ∙ plus-cons (a *ℤ pos 1) (pos 0) (zeros n) p
    ∙ ap₂ (λ x y. x ∷ y) (Z.plus_zero (a *ℤ pos 1) ∙ Z.times_comm a (pos 1) ∙ Z.one_times a) (plus_comm (zeros n) p ∙ plus-zeros p n e)

-- ---- a list with one more coefficient at the end
pub leading-last : (p : List ℤ) (c : ℤ) → leading (p ++ (c ∷ [])) ≡ c
unfolding leading
leading-last [] c = refl
leading-last (a ∷ []) c = refl
leading-last (a ∷ b ∷ p) c = leading-last (b ∷ p) c

pub lower-last : (p : List ℤ) (c : ℤ) → lower (p ++ (c ∷ [])) ≡ p
unfolding lower
lower-last [] c = refl
lower-last (a ∷ []) c = refl
lower-last (a ∷ b ∷ p) c = ap (λ y. a ∷ y) (lower-last (b ∷ p) c)
