-- Residues modulo n: the ring that they form, and its additive group (Gauss 1801).
use Rattle.std.specs.Prelude.{◌≡◌, ℕ, ◌+◌, ◌-◌, ◌*◌, ◌%◌, ◌<◌}
use Rattle.std.proofs.Common.{sym, ◌∙◌, ap, arith, add_assoc}
use Rattle.std.proofs.Math.Nat.{mod-lt, mod-eq_of_lt, mod_self, zero-mod, mod-add-mod, add-mod-mod, add_comm, add-zero, mul_assoc, mul_comm, mul-one, mul-add}
use Rattle.std.proofs.lemmas.Nat.{mul-mod_first, mul-mod_second}
use Rattle.algebra.specs.Structures.{CommGroup, CommRing}
use Rattle.algebra.specs.Below.{Below, below_equal}

-- the residue of a number
abbrev pub residue : (n : ℕ) → 0 < n → ℕ → Below n
residue n positive a = record { value = a % n; below = mod-lt a positive }

-- ---- the laws, as equations of numbers

pub residue_add_assoc : (n a b c : ℕ) → ((a + b) % n + c) % n ≡ (a + (b + c) % n) % n
residue_add_assoc n a b c = mod-add-mod (a + b) n c ∙ ap (λ x. x % n) (add_assoc a b c) ∙ sym (add-mod-mod a (b + c) n)

pub residue_add_nought : (n a : ℕ) → a < n → (a + 0 % n) % n ≡ a
residue_add_nought n a h = add-mod-mod a 0 n ∙ ap (λ x. x % n) (add-zero a) ∙ mod-eq_of_lt h

pub residue_add_neg : (n a : ℕ) → a < n → (a + (n - a) % n) % n ≡ 0 % n
residue_add_neg n a h = add-mod-mod a (n - a) n ∙ (let whole : a + (n - a) ≡ n = omega arith in rw whole (mod_self n ∙ sym (zero-mod n)))

pub residue_mul_assoc : (n a b c : ℕ) → (a * b % n * c) % n ≡ (a * (b * c % n)) % n
residue_mul_assoc n a b c = mul-mod_first (a * b) c n ∙ ap (λ x. x % n) (mul_assoc a b c) ∙ sym (mul-mod_second a (b * c) n)

pub residue_mul_one : (n a : ℕ) → a < n → (a * (1 % n)) % n ≡ a
residue_mul_one n a h = mul-mod_second a 1 n ∙ ap (λ x. x % n) (mul-one a) ∙ mod-eq_of_lt h

pub residue_mul_add : (n a b c : ℕ) → (a * ((b + c) % n)) % n ≡ (a * b % n + a * c % n) % n
residue_mul_add n a b c =
    mul-mod_second a (b + c) n ∙ ap (λ x. x % n) (mul-add a b c) ∙ sym (mod-add-mod (a * b) n (a * c)) ∙ sym (add-mod-mod (a * b % n) (a * c) n)

-- ---- the structures

-- the ring of residues modulo n
abbrev pub residue_ring : (n : ℕ) → 0 < n → CommRing (Below n)
residue_ring n positive = record {
  add = λ x y. residue n positive (x.value + y.value);
  nought = residue n positive 0;
  neg = λ x. residue n positive (n - x.value);
  mul = λ x y. residue n positive (x.value * y.value);
  one = residue n positive 1;
  add_assoc = λ x y z. below_equal _ _ (residue_add_assoc n x.value y.value z.value);
  add_comm = λ x y. below_equal _ _ (ap (λ a. a % n) (add_comm x.value y.value));
  add_nought = λ x. below_equal _ _ (residue_add_nought n x.value x.below);
  add_neg = λ x. below_equal _ _ (residue_add_neg n x.value x.below);
  mul_assoc = λ x y z. below_equal _ _ (residue_mul_assoc n x.value y.value z.value);
  mul_comm = λ x y. below_equal _ _ (ap (λ a. a % n) (mul_comm x.value y.value));
  mul_one = λ x. below_equal _ _ (residue_mul_one n x.value x.below);
  mul_add = λ x y z. below_equal _ _ (residue_mul_add n x.value y.value z.value);
}

-- the additive group of residues modulo n
abbrev pub residue_group : (n : ℕ) → 0 < n → CommGroup (Below n)
residue_group n positive = record {
  op = λ x y. residue n positive (x.value + y.value);
  unit = residue n positive 0;
  inv = λ x. residue n positive (n - x.value);
  op_assoc = λ x y z. below_equal _ _ (residue_add_assoc n x.value y.value z.value);
  op_comm = λ x y. below_equal _ _ (ap (λ a. a % n) (add_comm x.value y.value));
  op_unit = λ x. below_equal _ _ (residue_add_nought n x.value x.below);
  op_inv = λ x. below_equal _ _ (residue_add_neg n x.value x.below);
}
