-- The centre of a twisted group algebra by its structure, and the lists of the numbers at its pieces.
use Rattle.dixon_split.proofs.Names.{◌≡◌, ℕ, ◌*◌, ◌%◌, ◌<◌, ◌≤◌, true, Bool, List, [], ◌∷◌, length, get_or, refl, sym, ◌∙◌, ap, subst, CommRing, sum_below, Below, sum_ext, ModRing, is_modulus, field_residue, AreBelow, residue_of_value, TwistedSubgroup, size, IsTwist, rank, regular_representatives, twisted_product, regular_sum, IsFixed, ZeroTest, number, IsSplitting, AreCentralCharacters, Zipped, residue_field, divides, R, U, C, E, fixed, nought_test, AreNumbers, lists_characters, number_at, image_at, constant_value, Element, constant, HasStructure, IsCentreOf, Structure}
use Rattle.std.proofs.Math.Bool.{Bool-set}
use Rattle.std.specs.declared.vec.Vec.{Vec}
use Rattle.std.specs.declared.alloc.Global.{Global}
use Rattle.centre_powers.specs.CentralPowers.{unit_period}
use Rattle.splitting_theory.proofs.Counting.{splitting_counts}
use Rattle.centre_algebra.proofs.CentreRing.{unit_at_place}

-- the numbers by which the basis multiplies e
pub record AreNumbersAt (a : Structure) (Z : CommRing (Element a.q a.rank)) (H : HasStructure a Z) (e : Element a.q a.rank) (values : List ℕ) : Type 0 where
  pub count : length values ≡ a.rank
  pub below : AreBelow a.q values
  pub acts : (t : ℕ) → t < a.rank → Z.mul (H.basis t) e ≡ Z.mul (number Z (get_or values t 0)) e

-- an algebra with this structure whose pieces give the central characters
pub record GivesCharacters (ring : ModRing) (s : TwistedSubgroup) (a : Structure) : Type 0 where
  pub algebra : CommRing (Element a.q a.rank)
  pub test : ZeroTest algebra
  pub structure : HasStructure a algebra
  pub fixed : IsFixed algebra a.q
  pub counts : (es : List (Element a.q a.rank)) → IsSplitting algebra a.q structure.basis a.rank es → length es ≡ a.rank
  pub characters : (es : List (Element a.q a.rank)) (lists : List (List ℕ)) → IsSplitting algebra a.q structure.basis a.rank es
      → Zipped (AreNumbersAt a algebra structure) es lists → AreCentralCharacters ring s lists
  pub some : 0 < a.rank

zipped_weaker : {X Y : Type 0} (P Q : X → Y → Type 0) → ((x : X) (y : Y) → P x y → Q x y) → (xs : List X) (ys : List Y) → Zipped P xs ys → Zipped Q xs ys
zipped_weaker P Q f [] [] z = tt
zipped_weaker P Q f [] (y ∷ ys) z = absurd z
zipped_weaker P Q f (x ∷ xs) [] z = absurd z
zipped_weaker P Q f (x ∷ xs) (y ∷ ys) z = (f x y z.0, zipped_weaker P Q f xs ys z.1)

abbrev structure_of : (q r : ℕ) (constants : Vec ℕ Global) (listed : is_modulus q ≡ true) (few : r ≤ 61) (count : length constants.items ≡ r * r * r) (below : AreBelow q constants.items) → Structure
structure_of q r constants listed few count below = record { q = q; rank = r; constants = constants; listed = listed; few = few; count = count; below = below }

listed_once : (b : Bool) → IsProp (b ≡ true)
listed_once b = hlevel Bool-set

module _ (ring : ModRing) (s : TwistedSubgroup) (twist : IsTwist s) (over : size s < ring.q) (period : ring.conductor % unit_period s ≡ 0) where
  abbrev F : CommRing (Below ring.q)
  F = R ring s twist over period

  abbrev HasConstants : Structure → Type 0
  HasConstants a = (t j k : ℕ) → t < rank s → j < rank s → k < rank s → constant a t j k ≡ constant_value ring s t j k

  here : (constants : Vec ℕ Global) (few : rank s ≤ 61) (count : length constants.items ≡ rank s * rank s * rank s) (below : AreBelow ring.q constants.items)
      → HasConstants (structure_of ring.q (rank s) constants ring.listed few count below) → GivesCharacters ring s (structure_of ring.q (rank s) constants ring.listed few count below)
  here constants few count below same = record {
    algebra = C ring s twist over period;
    test = nought_test ring s twist over period;
    structure = record {
      nought_at = λ k. refl;
      one_at = λ k. unit_at_place F (U ring s twist over period) s twist (divides ring s twist over period) k;
      add_at = λ x y k. refl;
      neg_at = λ x k. refl;
      number_at = number_at ring s twist over period;
      basis = (E ring s twist over period).at;
      basis_first = (E ring s twist over period).first;
      image_at = λ t t_below e k.
          image_at ring s twist over period t t_below e k
          ∙ sum_ext F (rank s)
          (λ j. F.mul (field_residue ring.q ring.listed (get_or e j 0)) (twisted_product F (U ring s twist over period) s (regular_sum F (U ring s twist over period) s t) (regular_sum F (U ring s twist over period) s j) (get_or (regular_representatives s) k.value 0)))
          (λ j. F.mul (field_residue ring.q ring.listed (get_or e j 0)) (field_residue ring.q ring.listed (constant (structure_of ring.q (rank s) constants ring.listed few count below) t j k.value)))
          (λ j h. ap (F.mul (field_residue ring.q ring.listed (get_or e j 0)))
          (sym (ap (field_residue ring.q ring.listed) (same t j k.value t_below h k.below)
          ∙ residue_of_value ring.q ring.listed (twisted_product F (U ring s twist over period) s (regular_sum F (U ring s twist over period) s t) (regular_sum F (U ring s twist over period) s j) (get_or (regular_representatives s) k.value 0)))))
          ∙ sym (residue_of_value ring.q ring.listed
          (sum_below F (rank s) (λ j. F.mul (field_residue ring.q ring.listed (get_or e j 0)) (field_residue ring.q ring.listed (constant (structure_of ring.q (rank s) constants ring.listed few count below) t j k.value)))));
    };
    fixed = fixed ring s twist over period;
    counts = λ es S. splitting_counts F (residue_field ring.q ring.listed) (C ring s twist over period) (rank s) (E ring s twist over period) ring.q es S;
    characters = λ es lists S z. lists_characters ring s twist over period es lists S
        (zipped_weaker _ (AreNumbers ring s twist over period) (λ e values n. record { count = n.count; below = n.below; acts = n.acts }) es lists z);
    some = (E ring s twist over period).some;
  }

  abbrev Gives : ℕ → ℕ → Type 0
  Gives q r = (constants : Vec ℕ Global) (listed : is_modulus q ≡ true) (few : r ≤ 61) (count : length constants.items ≡ r * r * r) (below : AreBelow q constants.items)
      → HasConstants (structure_of q r constants listed few count below) → GivesCharacters ring s (structure_of q r constants listed few count below)

  by_rank : Gives ring.q (rank s)
  by_rank constants listed few count below same =
      let P : (is_modulus ring.q ≡ true) → Type 0 = λ l. GivesCharacters ring s (structure_of ring.q (rank s) constants l few count below) in
      subst P (listed_once (is_modulus ring.q) ring.listed listed) (here constants few count below same)

  pub gives_characters : (a : Structure) → IsCentreOf ring s a → GivesCharacters ring s a
  gives_characters a I =
      let at_q : Gives a.q (rank s) = subst (λ q. Gives q (rank s)) (sym I.prime) by_rank in
      let at_r : Gives a.q a.rank = subst (λ r. Gives a.q r) (sym I.dimension) at_q in
      at_r a.constants a.listed a.few a.count a.below I.constants
