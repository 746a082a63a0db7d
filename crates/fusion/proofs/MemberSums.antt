-- Sums over lists of numbers that pass a test.
use Rattle.fusion.proofs.Names.{◌≡◌, ◌<◌, ◌==◌, ◌∷◌, [], ℕ, Bool, true, false, List, length, get_or, map, refl, sym, ◌∙◌, ap, eq-eqb, eqb-true, sum_below, sum_list, pick, sum_zero, sum_first, sum_ext, sum_list_nil, sum_list_cons, pick_of, pick_off, Table, IsGroup}
use Rattle.algebra.specs.Structures.{CommRing}
use Rattle.group_table.specs.Numbers.{passing_below}
use Rattle.pair_orbits.proofs.Passing.{passing_sum}
use Rattle.classes.specs.Conjugacy.{is_conjugate, representatives, representative_at, representative_of, class_of, members_of}
use Rattle.classes.proofs.Conjugacy.{IsRepresentative, representative_at_is, class_represents, member_test}

module _ {A : Type 0} (R : CommRing A) where
  -- the sum over the items of a list, place after place
  pub sum_items : {B : Type 0} (xs : List B) (otherwise : B) (f : B → A) → sum_below R (length xs) (λ q. f (get_or xs q otherwise)) ≡ sum_list R (map f xs)
  sum_items [] otherwise f = sum_zero R (λ q. f (get_or [] q otherwise)) ∙ sym (sum_list_nil R)
  sum_items (x ∷ xs) otherwise f =
      sum_first R (length xs) (λ q. f (get_or (x ∷ xs) q otherwise)) ∙ ap (R.add (f x)) (sum_items xs otherwise f) ∙ sym (sum_list_cons R (f x) (map f xs))

  -- where the others are nought, that is the sum over all
  pub sum_of_passing : (n : ℕ) (test : ℕ → Bool) (f : ℕ → A) → ((i : ℕ) → i < n → test i ≡ false → f i ≡ R.nought)
      → sum_below R n f ≡ sum_below R (length (passing_below n test)) (λ q. f (get_or (passing_below n test) q 0))
  sum_of_passing n test f none =
      sum_ext R n f (λ i. pick R (test i) (f i)) (λ i below. by i below (test i) refl)
      ∙ sym (passing_sum R n test f) ∙ sym (sum_items (passing_below n test) 0 f)
    where
      by : (i : ℕ) → i < n → (b : Bool) → test i ≡ b → f i ≡ pick R b (f i)
      by i below true passes = sym (pick_of R true (f i) refl)
      by i below false fails = none i below fails ∙ sym (pick_off R false (f i) refl)

-- an element that isn't among the members of a class is of another class
other_class : (t : Table) → IsGroup t → (c g : ℕ) → c < length (representatives t) → g < t.order → is_conjugate t (representative_at t c) g ≡ false → (class_of t g == c) ≡ false
other_class t G c g c_below g_below apart = by (class_of t g == c) refl
  where
    by : (b : Bool) → (class_of t g == c) ≡ b → b ≡ false
    by false e = refl
    by true e =
        let rep : IsRepresentative t (representative_at t c) = representative_at_is t G c c_below in
        let same : representative_of t g ≡ representative_at t c = sym (class_represents t G g g_below) ∙ ap (representative_at t) (eqb-true _ _ e) in
        sym (eq-eqb _ _ same) ∙ member_test t G (representative_at t c) g rep.below g_below rep.represents ∙ apart

-- the sum over all elements of what is nought outside of a class is that over its members
pub sum_of_members : {A : Type 0} (R : CommRing A) (t : Table) → IsGroup t → (c : ℕ) → c < length (representatives t) → (f : ℕ → A)
    → ((g : ℕ) → g < t.order → (class_of t g == c) ≡ false → f g ≡ R.nought)
    → sum_below R t.order f ≡ sum_below R (length (members_of t (representative_at t c))) (λ q. f (get_or (members_of t (representative_at t c)) q 0))
unfolding members_of
sum_of_members R t G c c_below f none =
    sum_of_passing R t.order (is_conjugate t (representative_at t c)) f
    (λ g below apart. none g below (other_class t G c g c_below below apart))
