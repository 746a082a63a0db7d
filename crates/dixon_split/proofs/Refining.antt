-- The parts of the pieces so far, and of one more.
use Rattle.dixon_split.proofs.Names.{◌≡◌, ℕ, zero, suc, ◌+◌, ◌<◌, ◌≤◌, ◌≢◌, Bool, true, false, cond, All, Option, Some, None, IfSome, IfNone, List, [], ◌∷◌, ◌++◌, map, take, length, get_or, append_assoc, refl, sym, ◌∙◌, ap, subst, arith, flat_map, add-one, eqb, All-nil, All-cons, fun_ext, CommRing, field, field_residue, IsTabulated, modulus_positive, Each, IsFixed, ZeroTest, IsPiece, pieces, pieces_split, pick_true, pick_false, modulus_over_one, Element, IsElement, residues, HasStructure, Structure}
use Rattle.algebra.specs.Sums.{pick}
use Rattle.splitting_theory.proofs.Lists.{each_map}
use Rattle.dixon_split.proofs.PushedParts.{append_none}

pub some_at : {X : Type 0} (o : Option X) (x : X) (P : X → Type 0) → o ≡ Some x → IfSome o P → P x
some_at {X} o x P e h = let Q : Option X → Type 0 = λ o. IfSome o P in subst Q e h

pub none_at : {X : Type 0} (o : Option X) (P : Type 0) → o ≡ None → IfNone o P → P
none_at {X} o P e h = let Q : Option X → Type 0 = λ o. IfNone o P in subst Q e h

module _ {V X Y : Type 0} (f : V → X) (g : X → List Y) where
  more_by : (i : ℕ) (xs : List V) (x : V) → i < length xs → x ≡ get_or xs i x → flat_map g (map f (take (suc i) xs)) ≡ flat_map g (map f (take i xs)) ++ g (f x)
  more_by i [] x h e = absurd (omega arith)
  more_by zero (y ∷ xs) x h e = sym (append_none (g (f y))) ∙ ap (λ z. g (f z)) (sym e)
  more_by (suc i) (y ∷ xs) x h e = ap (λ ys. g (f y) ++ ys) (more_by i xs x (omega arith) e) ∙ sym (append_assoc (g (f y)) (flat_map g (map f (take i xs))) (g (f x)))

  pub refined_more : (i : ℕ) (xs : List V) (x : V) → i < length xs → x ≡ get_or xs i x → flat_map g (map f (take (i + 1) xs)) ≡ flat_map g (map f (take i xs)) ++ g (f x)
  refined_more i xs x h e = ap (λ n. flat_map g (map f (take n xs))) (add-one i) ∙ more_by i xs x h e

pub take_whole : {X : Type 0} (i : ℕ) (xs : List X) → length xs ≤ i → take i xs ≡ xs
take_whole zero [] h = refl
take_whole zero (x ∷ xs) h = absurd (omega arith)
take_whole (suc i) [] h = refl
take_whole (suc i) (x ∷ xs) h = ap (λ ys. x ∷ ys) (take_whole i xs (omega arith))

-- what holds of each image holds of all
pub each_all : {V X : Type 0} (f : V → X) (P : X → Type 0) (xs : List V) → Each P (map f xs) → All (λ x. P (f x)) xs
each_all f P [] h = All-nil (λ x. P (f x))
each_all f P (x ∷ xs) h = All-cons (λ x. P (f x)) x xs h.0 (each_all f P xs h.1)

module _ (a : Structure) (Z : CommRing (Element a.q a.rank)) (T : ZeroTest Z) (H : HasStructure a Z) (I : IsFixed Z a.q) where
  -- the pieces so far are nonzero idempotents
  pub pieces_good : {V : Type 0} (f : V → Element a.q a.rank) (t : ℕ) (ps : List V) → map f ps ≡ pieces Z T a.q H.basis t → All (λ p. (f p ≢ Z.nought) × (Z.mul (f p) (f p) ≡ f p)) ps
  pieces_good f t ps e =
      let S = pieces_split Z T a.q I H.basis t in
      each_all f (λ x. (x ≢ Z.nought) × (Z.mul x x ≡ x)) ps
      (subst (Each (λ x. (x ≢ Z.nought) × (Z.mul x x ≡ x))) (sym e)
      (each_map (IsPiece Z a.q H.basis t) (λ x. (x ≢ Z.nought) × (Z.mul x x ≡ x)) (λ x p. (p.there, p.idempotent)) (pieces Z T a.q H.basis t) S.each))

  -- the numbers 1, 0, 0, .. stand for one
  pub first_one : (numbers : List ℕ) → IsTabulated a.rank (λ k. cond (eqb k 0) 1 0) numbers → residues a numbers ≡ Z.one
  first_one numbers h = fun_ext (λ k. ap (field_residue a.q a.listed) (h.each k.value k.below) ∙ by (eqb k.value 0) ∙ sym (H.one_at k))
    where
      by : (b : Bool) → field_residue a.q a.listed (cond b 1 0) ≡ pick (field a.q a.listed) b (field a.q a.listed).one
      by true = sym (pick_true (field a.q a.listed) (field a.q a.listed).one)
      by false = sym (pick_false (field a.q a.listed) (field a.q a.listed).one)

pub first_is_element : (a : Structure) (numbers : List ℕ) → IsTabulated a.rank (λ k. cond (eqb k 0) 1 0) numbers → IsElement a.q a.rank numbers
first_is_element a numbers h = record { count = h.count; below = λ k below. subst (λ v. v < a.q) (sym (h.each k (let c = h.count in omega arith))) (small (eqb k 0)) }
  where
    small : (b : Bool) → cond b 1 0 < a.q
    small true = modulus_over_one a.q a.listed
    small false = modulus_positive a.q a.listed

-- what holds of all holds of the one at an index
pub good_here : (a : Structure) (Z : CommRing (Element a.q a.rank)) {V : Type 0} (f : V → Element a.q a.rank) (ps : List V) (i : ℕ) (p : V) (x : Element a.q a.rank) → i < length ps → p ≡ get_or ps i p → x ≡ f p
    → All (λ p. (f p ≢ Z.nought) × (Z.mul (f p) (f p) ≡ f p)) ps → (x ≢ Z.nought) × (Z.mul x x ≡ x)
good_here a Z f ps i p x h e is all =
    let P : Element a.q a.rank → Type 0 = λ x. (x ≢ Z.nought) × (Z.mul x x ≡ x) in
    subst P (sym (is ∙ ap f e)) (all i p h)

pub single : {V : Type 0} (xs olds : List V) (v : V) → xs ≡ olds ++ v ∷ [] → olds ≡ [] → xs ≡ v ∷ []
single xs olds v e h = e ∙ ap (λ ys. ys ++ v ∷ []) h

pub all_single : {V : Type 0} (P : V → Type 0) (xs olds : List V) (v : V) → xs ≡ olds ++ v ∷ [] → olds ≡ [] → P v → All P xs
all_single P xs olds v e h p = subst (All P) (sym (single xs olds v e h)) (All-cons P v [] p (All-nil P))
