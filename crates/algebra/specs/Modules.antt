-- Modules over a commutative ring with a linear map (textbook), and polynomials that act on them.
use Rattle.std.specs.Prelude.{◌≡◌, ℕ, zero, suc, List, [], ◌∷◌}
use Rattle.algebra.specs.Structures.{CommRing}

-- a module V over R with a linear map
pub record LinearMap {A : Type 0} (R : CommRing A) (V : Type 0) : Type 0 where
  pub add : V → V → V
  pub nought : V
  pub scale : A → V → V
  pub map : V → V
  pub add_assoc : (u v w : V) → add (add u v) w ≡ add u (add v w)
  pub add_comm : (u v : V) → add u v ≡ add v u
  pub add_nought : (v : V) → add v nought ≡ v
  pub scale_add : (c : A) (u v : V) → scale c (add u v) ≡ add (scale c u) (scale c v)
  pub scale_sum : (c d : A) (v : V) → scale (R.add c d) v ≡ add (scale c v) (scale d v)
  pub scale_product : (c d : A) (v : V) → scale (R.mul c d) v ≡ scale c (scale d v)
  pub scale_one : (v : V) → scale R.one v ≡ v
  pub scale_zero : (v : V) → scale R.nought v ≡ nought
  pub map_add : (u v : V) → map (add u v) ≡ add (map u) (map v)
  pub map_scale : (c : A) (v : V) → map (scale c v) ≡ scale c (map v)

-- the map, k times
unfoldable pub iterate : {V : Type 0} → (V → V) → ℕ → V → V
iterate f zero v = v
iterate f (suc k) v = f (iterate f k v)

module _ {A V : Type 0} {R : CommRing A} (T : LinearMap R V) where
  -- c0 v + c1 T v + .. + T^k u, by Horner, for the k coefficients c0, c1, ..
  unfoldable pub horner : List A → V → V → V
  horner [] v u = u
  horner (c ∷ f) v u = T.add (T.scale c v) (T.map (horner f v u))

  -- the polynomial with the coefficients f, at T, on v
  abbrev pub act : List A → V → V
  act f v = horner f v T.nought

  -- the polynomial with the lower coefficients f and 1 after them, at T, on v
  abbrev pub act_monic : List A → V → V
  act_monic f v = horner f v v

-- a part of the module that sums, multiples and the map don't leave
pub record IsStable {A V : Type 0} {R : CommRing A} (T : LinearMap R V) (W : V → Type 0) : Type 0 where
  pub none : W T.nought
  pub plus : (u v : V) → W u → W v → W (T.add u v)
  pub scale : (c : A) (v : V) → W v → W (T.scale c v)
  pub move : (v : V) → W v → W (T.map v)

-- v and some combination of the listed elements add up to one of the part U
unfoldable pub Reaches : {A V : Type 0} {R : CommRing A} (T : LinearMap R V) (U : V → Type 0) → List V → V → Type 0
Reaches T U [] v = U v
Reaches {A} T U (e ∷ es) v = (c : A) × Reaches T U es (T.add v (T.scale c e))
