-- What the ring object of the test computes.
use Rattle.qd_ring.proofs.Names.{◌≡◌, ◌≢◌, ℕ, ◌+◌, ◌*◌, ◌%◌, refl, sym, ◌∙◌, ap, arith, mod-mod, one-mul, below_equal, residue, power, three, thirds, thirds_cycle, odd_power}
use Rattle.std.proofs.lemmas.Nat.{mul-mod, mul-mod_second}
use Rattle.algebra.proofs.RootLaws.{power_mod}

pub sum_residue : (a b : ℕ) → residue 3 three ((a + b) % 3) ≡ residue 3 three (a % 3 + b % 3)
sum_residue a b = below_equal _ _ (omega arith)

pub product_residue : (a b : ℕ) → residue 3 three (a * b % 3) ≡ residue 3 three (a % 3 * (b % 3))
product_residue a b = below_equal _ _ (mod-mod (a * b) 3 ∙ mul-mod a b 3)

even_power : (e : ℕ) → e % 2 ≡ 0 → power thirds (residue 3 three 2) e ≡ residue 3 three 1
unfolding power
even_power e h = power_mod thirds (residue 3 three 2) 2 thirds_cycle e ∙ ap (λ k. power thirds (residue 3 three 2) k) h ∙ below_equal _ _ refl

pub even_multiple : (e a : ℕ) → e % 2 ≡ 0 → residue 3 three a ≡ residue 3 three ((power thirds (residue 3 three 2) e).value * (a % 3))
even_multiple e a h = below_equal _ _ (sym (ap (λ k. (k.value * (a % 3)) % 3) (even_power e h) ∙ mul-mod_second 1 a 3 ∙ ap (λ k. k % 3) (one-mul a)))

pub odd_multiple : (e a : ℕ) → e % 2 ≢ 0 → residue 3 three (a * 2 % 3) ≡ residue 3 three ((power thirds (residue 3 three 2) e).value * (a % 3))
odd_multiple e a h = below_equal _ _ (sym (ap (λ k. (k.value * (a % 3)) % 3) (odd_power e h) ∙ omega arith))
