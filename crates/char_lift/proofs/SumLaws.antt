-- Sums and lists of the values of a function.
use Rattle.char_lift.proofs.Names.{◌≡◌, ℕ, zero, suc, ◌+◌, ◌%◌, ◌<◌, refl, sym, ap, ◌∙◌, arith, add-one, ap₂, AreBelow, mod-add-mod, add-mod-mod, sum_of, tabulated, length-tabulated, tabulated-at}

-- ---- sums
pub sum-zero : (f : ℕ → ℕ) → sum_of 0 f ≡ 0
unfolding sum_of
sum-zero f = refl

pub sum-suc : (n : ℕ) (f : ℕ → ℕ) → sum_of (suc n) f ≡ sum_of n f + f n
unfolding sum_of
sum-suc n f = refl

pub sum-more : (n : ℕ) (f : ℕ → ℕ) → sum_of (n + 1) f ≡ sum_of n f + f n
sum-more n f = ap (λ k. sum_of k f) (add-one n) ∙ sum-suc n f

pub sum-same : (n : ℕ) (f g : ℕ → ℕ) → ((i : ℕ) → i < n → f i ≡ g i) → sum_of n f ≡ sum_of n g
sum-same zero f g same = sum-zero f ∙ sym (sum-zero g)
sum-same (suc n) f g same =
    sum-suc n f ∙ ap₂ (λ a b. a + b) (sum-same n f g (λ i h. same i (omega arith))) (same n (omega arith)) ∙ sym (sum-suc n g)

-- a sum modulo q is that of the residues of its two parts
pub add-residues : (q a b : ℕ) → (a + b) % q ≡ (a % q + b % q) % q
add-residues q a b = sym (mod-add-mod a q b) ∙ sym (add-mod-mod (a % q) b q)

-- sums of the same residues have the same residue
pub sum-residues : (q n : ℕ) (f g : ℕ → ℕ) → ((i : ℕ) → i < n → f i % q ≡ g i % q) → sum_of n f % q ≡ sum_of n g % q
sum-residues q zero f g same = ap (λ a. a % q) (sum-zero f ∙ sym (sum-zero g))
sum-residues q (suc n) f g same =
    ap (λ a. a % q) (sum-suc n f)
    ∙ add-residues q (sum_of n f) (f n)
    ∙ ap₂ (λ a b. (a + b) % q) (sum-residues q n f g (λ i h. same i (omega arith))) (same n (omega arith))
    ∙ sym (add-residues q (sum_of n g) (g n))
    ∙ ap (λ a. a % q) (sym (sum-suc n g))

-- one more term of a sum modulo q
pub running : (q n : ℕ) (f : ℕ → ℕ) (sum term : ℕ) → sum ≡ sum_of n f % q → term ≡ f n % q → (sum + term) % q ≡ sum_of (n + 1) f % q
running q n f sum term so_far more =
    ap₂ (λ a b. (a + b) % q) so_far more ∙ sym (add-residues q (sum_of n f) (f n)) ∙ ap (λ a. a % q) (sym (sum-more n f))

-- ---- lists
pub tabulated-below : (q n : ℕ) (f : ℕ → ℕ) → ((i : ℕ) → i < n → f i < q) → AreBelow q (tabulated n f)
tabulated-below q n f below i h =
    let inside : i < n = omega (arith, length-tabulated n f) in
    omega (arith, tabulated-at n i f 0 inside, below i inside)
