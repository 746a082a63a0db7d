-- Facts of the elements of a list and of its pairs, through appending and mapping to lists.
use Rattle.splitting_theory.proofs.Names.{List, [], ◌∷◌, ◌++◌, flat_map, Each, Pairwise}

module _ {X : Type 0} where
  pub each_append : (P : X → Type 0) (xs ys : List X) → Each P xs → Each P ys → Each P (xs ++ ys)
  each_append P [] ys h k = k
  each_append P (x ∷ xs) ys h k = (h.0, each_append P xs ys h.1 k)

  pub each_map : (P Q : X → Type 0) → ((x : X) → P x → Q x) → (xs : List X) → Each P xs → Each Q xs
  each_map P Q f [] h = tt
  each_map P Q f (x ∷ xs) h = (f x h.0, each_map P Q f xs h.1)

  pub each_all : (P : X → Type 0) → ((x : X) → P x) → (xs : List X) → Each P xs
  each_all P f [] = tt
  each_all P f (x ∷ xs) = (f x, each_all P f xs)

  pub each_both : (P Q : X → Type 0) (xs : List X) → Each P xs → Each Q xs → Each (λ x. P x × Q x) xs
  each_both P Q [] h k = tt
  each_both P Q (x ∷ xs) h k = ((h.0, k.0), each_both P Q xs h.1 k.1)

  pub pairwise_append : (R : X → X → Type 0) (xs ys : List X) → Pairwise R xs → Pairwise R ys → Each (λ x. Each (R x) ys) xs → Pairwise R (xs ++ ys)
  pairwise_append R [] ys h k c = k
  pairwise_append R (x ∷ xs) ys h k c = (each_append (R x) xs ys h.0 c.0, pairwise_append R xs ys h.1 k c.1)

module _ {X Y : Type 0} (f : X → List Y) where
  -- what holds of each element that comes from one with P
  pub each_flat : (P : X → Type 0) (Q : Y → Type 0) → ((x : X) → P x → Each Q (f x)) → (xs : List X) → Each P xs → Each Q (flat_map f xs)
  each_flat P Q g [] h = tt
  each_flat P Q g (x ∷ xs) h = each_append Q (f x) (flat_map f xs) (g x h.0) (each_flat P Q g xs h.1)

  -- what holds of pairs from one element and of pairs from two
  pub pairwise_flat : (P : X → Type 0) (R : X → X → Type 0) (S : Y → Y → Type 0) → ((x : X) → P x → Pairwise S (f x))
      → ((x y : X) → P x → P y → R x y → Each (λ p. Each (S p) (f y)) (f x)) → (xs : List X) → Each P xs → Pairwise R xs → Pairwise S (flat_map f xs)
  pairwise_flat P R S own cross [] h k = tt
  pairwise_flat P R S own cross (x ∷ xs) h k =
      pairwise_append S (f x) (flat_map f xs) (own x h.0) (pairwise_flat P R S own cross xs h.1 k.1) (later xs h.1 k.0)
    where
      exchange : (p : Y) (ys : List Y) (zs : List Y) → Each (λ r. Each (S r) zs) ys → Each (λ r. Each (S r) []) ys
      exchange p [] zs h = tt
      exchange p (y ∷ ys) zs h = (tt, exchange p ys zs h.1)

      joined : (ps ys zs : List Y) → Each (λ p. Each (S p) ys) ps → Each (λ p. Each (S p) zs) ps → Each (λ p. Each (S p) (ys ++ zs)) ps
      joined [] ys zs h k = tt
      joined (p ∷ ps) ys zs h k = (each_append (S p) ys zs h.0 k.0, joined ps ys zs h.1 k.1)

      later : (ys : List X) → Each P ys → Each (R x) ys → Each (λ p. Each (S p) (flat_map f ys)) (f x)
      later [] a b = each_all (λ p. Each (S p) []) (λ p. tt) (f x)
      later (y ∷ ys) a b = joined (f x) (f y) (flat_map f ys) (cross x y h.0 a.0 b.0) (later ys a.1 b.1)
