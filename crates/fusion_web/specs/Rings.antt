-- Rings of places: each place below m is in the ring with the number `ring p`, where it stands by ascending `key p`.
use Rattle.std.specs.Prelude.{◌≡◌, ℕ, ◌<◌, ◌≤◌, Some, None, Option, List, length, slice_index_or}

module _ (ring key : ℕ → ℕ) (m : ℕ) where
  -- q follows p in its ring: it has the next greater key; or the least, where p has the greatest
  pub record IsNext (p q : ℕ) : Type 0 where
    pub inside : q < m
    pub same : ring q ≡ ring p
    pub greater : key p < key q → (r : ℕ) → r < m → ring r ≡ ring p → key p < key r → key q ≤ key r
    pub around : key q ≤ key p → (r : ℕ) → r < m → ring r ≡ ring p → (key q ≤ key r) × (key r ≤ key p)

  -- p has the least key of the ring c
  pub record IsFirst (c p : ℕ) : Type 0 where
    pub inside : p < m
    pub here : ring p ≡ c
    pub least : (r : ℕ) → r < m → ring r ≡ c → key p ≤ key r

  -- p has the greatest key of the ring c
  pub record IsLast (c p : ℕ) : Type 0 where
    pub inside : p < m
    pub here : ring p ≡ c
    pub greatest : (r : ℕ) → r < m → ring r ≡ c → key r ≤ key p

  -- no place is in the ring c
  abbrev pub IsEmpty : ℕ → Type 0
  IsEmpty c = (r : ℕ) → r < m → ring r ≡ c → ⊥

  -- each place leads to the next of its ring, and the last place of each ring is known
  pub record IsRinged (next : ℕ → ℕ) (lasts : List (Option ℕ)) : Type 0 where
    pub linked : (p : ℕ) → p < m → IsNext p (next p)
    pub empty : (c : ℕ) → c < length lasts → slice_index_or lasts c None ≡ None → IsEmpty c
    pub last : (c e : ℕ) → c < length lasts → slice_index_or lasts c None ≡ Some e → IsLast c e

  -- places of one ring have different keys
  abbrev pub AreDistinct : Type 0
  AreDistinct = (p q : ℕ) → p < m → q < m → ring p ≡ ring q → key p ≡ key q → p ≡ q

module _ (ring key : ℕ → ℕ) (m : ℕ) where
  -- the place m, which is to come into a ring of places below it, belongs between p and the place to which p leads
  pub record IsPlaceBefore (next : ℕ → ℕ) (p : ℕ) : Type 0 where
    pub inside : p < m
    pub here : ring p ≡ ring m
    pub greater : key p < key (next p) → (key p < key m) × (key m ≤ key (next p))
    pub around : key (next p) ≤ key p → key (next p) < key m → key p < key m
