-- Commutative algebras with a basis over a field, and their characters (textbook).
use Rattle.std.specs.Prelude.{◌≡◌, ◌≢◌, ℕ, suc, ◌<◌, List, [], ◌∷◌, ◌⊎◌}
use Rattle.algebra.specs.Structures.{CommRing}
use Rattle.algebra.specs.Sums.{sum_below}

-- Z is an algebra over F, and each of its elements is one combination of the r elements at 0, 1, .., of which the first is one
pub record HasBasis {A B : Type 0} (F : CommRing A) (Z : CommRing B) (r : ℕ) : Type 0 where
  pub of : A → B
  pub of_add : (x y : A) → of (F.add x y) ≡ Z.add (of x) (of y)
  pub of_mul : (x y : A) → of (F.mul x y) ≡ Z.mul (of x) (of y)
  pub of_one : of F.one ≡ Z.one
  pub at : ℕ → B
  pub coordinate : B → ℕ → A
  pub spans : (z : B) → sum_below Z r (λ t. Z.mul (of (coordinate z t)) (at t)) ≡ z
  pub unique : (f : ℕ → A) (i : ℕ) → i < r → coordinate (sum_below Z r (λ t. Z.mul (of (f t)) (at t))) i ≡ f i
  pub some : 0 < r
  pub first : at 0 ≡ Z.one

module _ {A B : Type 0} {F : CommRing A} {Z : CommRing B} {r : ℕ} (E : HasBasis F Z r) where
  -- the value at z of the linear map with these values at the basis
  unfoldable pub evaluate : (ℕ → A) → B → A
  evaluate u z = sum_below F r (λ k. F.mul (E.coordinate z k) (u k))

  -- the linear map with these values at the basis is a character: it respects one and the products of the basis
  pub record IsCharacter (u : ℕ → A) : Type 0 where
    pub one : u 0 ≡ F.one
    pub product : (i j : ℕ) → i < r → j < r → evaluate u (Z.mul (E.at i) (E.at j)) ≡ F.mul (u i) (u j)

  -- the basis multiplies e by these values
  abbrev pub HasValues : B → (ℕ → A) → Type 0
  HasValues e u = (t : ℕ) → t < r → Z.mul (E.at t) e ≡ Z.mul (E.of (u t)) e

-- the r + 1 rows x of width r are dependent: a combination of them with coefficients that aren't all nought is nought
pub record AreDependent {A : Type 0} (F : CommRing A) (r : ℕ) (x : ℕ → ℕ → A) : Type 0 where
  pub coefficient : ℕ → A
  pub place : ℕ
  pub place_below : place < suc r
  pub there : coefficient place ≢ F.nought
  pub none : (k : ℕ) → k < r → sum_below F (suc r) (λ i. F.mul (coefficient i) (x i k)) ≡ F.nought

-- P holds of some element
abbrev pub Among : {X : Type 0} → (X → Type 0) → List X → Type 0
Among P [] = ⊥
Among P (x ∷ xs) = P x ⊎ Among P xs
