-- Congruences are added, turned round and cancelled.
use Rattle.algebra.proofs.Names.{◌≡◌, ℕ, zero, suc, ◌+◌, ◌*◌, ◌%◌, ◌<◌, refl, sym, ◌∙◌, ap, arith, mod-add-mod, add-mod-mod, add-mul-mod_self_right, mod-eq_of_lt, mod-mod, mul-mod_second, mul-mod_first, Same}

pub same_refl : (n a : ℕ) → Same n a a
same_refl n a = record { same = refl }

-- equal numbers are congruent
pub same_of : (n : ℕ) {a b : ℕ} → a ≡ b → Same n a b
same_of n e = record { same = ap (λ x. x % n) e }

pub same_sym : {n a b : ℕ} → Same n a b → Same n b a
same_sym h = record { same = sym h.same }

pub same_trans : {n a b c : ℕ} → Same n a b → Same n b c → Same n a c
same_trans h k = record { same = h.same ∙ k.same }

-- a number is congruent to its remainder
pub same_mod : (n a : ℕ) → Same n (a % n) a
same_mod n a = record { same = mod-mod a n }

pub same_add : {n a b c d : ℕ} → Same n a b → Same n c d → Same n (a + c) (b + d)
same_add {n} {a} {b} {c} {d} h k = record {
  same =
      sym (mod-add-mod a n c) ∙ ap (λ x. (x + c) % n) h.same ∙ mod-add-mod b n c
      ∙ sym (add-mod-mod b c n) ∙ ap (λ x. (b + x) % n) k.same ∙ add-mod-mod b d n;
}

pub same_add_left : {n a b : ℕ} (c : ℕ) → Same n a b → Same n (c + a) (c + b)
same_add_left {n} c h = same_add (same_refl n c) h

pub same_add_right : {n a b : ℕ} (c : ℕ) → Same n a b → Same n (a + c) (b + c)
same_add_right {n} c h = same_add h (same_refl n c)

pub same_mul_left : {n a b : ℕ} (c : ℕ) → Same n a b → Same n (c * a) (c * b)
same_mul_left {n} {a} {b} c h = record { same = sym (mul-mod_second c a n) ∙ ap (λ x. (c * x) % n) h.same ∙ mul-mod_second c b n }

pub same_mul_right : {n a b : ℕ} (c : ℕ) → Same n a b → Same n (a * c) (b * c)
same_mul_right {n} {a} {b} c h = record { same = sym (mul-mod_first a c n) ∙ ap (λ x. (x * c) % n) h.same ∙ mul-mod_first b c n }

-- multiples of n may be left out
pub same_add_multiple : (n a k : ℕ) → Same n (a + k * n) a
same_add_multiple n a k = record { same = add-mul-mod_self_right a k n }

pub same_multiple : (n k : ℕ) → Same n (k * n) 0
same_multiple n k = record { same = ap (λ x. x % n) (omega arith) ∙ add-mul-mod_self_right 0 k n }

-- a summand may be cancelled
pub same_cancel : {n a b : ℕ} (c : ℕ) → Same n (c + a) (c + b) → Same n a b
same_cancel {n = zero} {a} {b} c h = record { same = omega (arith, h.same) }
same_cancel {n = suc m} {a} {b} c h = same_trans (same_sym (front a)) (same_trans (same_add_left (c * m) h) (front b))
  where
    front : (x : ℕ) → Same (suc m) (c * m + (c + x)) x
    front x = record { same = ap (λ y. y % suc m) (omega arith) ∙ add-mul-mod_self_right x c (suc m) }

-- from a congruence of p and q to one of l and r with the same difference
pub same_lin : (n l r p q : ℕ) → Same n p q → l + q ≡ r + p → Same n l r
same_lin n l r p q h e = same_cancel q (record { same = ap (λ x. x % n) (omega arith) ∙ (same_add_left r h).same ∙ ap (λ x. x % n) (omega arith) })

-- congruent numbers below n are equal
pub same_equal : {n a b : ℕ} → a < n → b < n → Same n a b → a ≡ b
same_equal p q h = sym (mod-eq_of_lt p) ∙ h.same ∙ mod-eq_of_lt q
