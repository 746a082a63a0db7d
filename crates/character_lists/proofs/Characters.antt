-- The lists that pass the test are those of all central characters.
use Rattle.character_lists.proofs.Names.{◌≡◌, ℕ, ◌==◌, true, List, ap, subst, eqb-true, eq-eqb, Contains, ◌&&◌, ap₂, Each, Pairwise, IsCharacterList, IsBefore}
use Rattle.scan.specs.First.{all_below}
use Rattle.scan.proofs.Places.{all_below-at, all_below-all, and_true}
use Rattle.algebra.specs.Below.{below_equal}
use Rattle.prime_field.specs.declared.mod_ring.ModRing.{ModRing}
use Rattle.prime_field.specs.Field.{field}
use Rattle.twisted.specs.Twist.{TwistedSubgroup}
use Rattle.twisted.specs.Regular.{rank}
use Rattle.centre_algebra.specs.Laws.{AreCentralCharacters}
use Rattle.centre_algebra.proofs.CharacterLists.{centre_splits}
use Rattle.character_lists.specs.CharacterLists.{number_lists, residue_at, respects, is_character, central_characters}
use Rattle.character_lists.specs.Laws.{ListsCharacters}
use Rattle.character_lists.proofs.Lists.{each_at, in_filter, each_filter, pairwise_filter, same_ascending, not_before_itself, before_before, IsNumberList, number_lists_are, number_lists_ascend, in_number_lists}

module _ (ring : ModRing) (s : TwistedSubgroup) where
  -- what passes is a character
  passes_is : (values : List ℕ) → IsNumberList ring.q (rank s) values → is_character ring s values ≡ true → IsCharacterList ring s values
  unfolding is_character
  passes_is values is passes =
      let tests = and_true ((residue_at ring s values 0).value == (field ring.q ring.listed).one.value) (all_below (rank s) (λ i. all_below (rank s) (respects ring s values i))) passes in
      record {
        count = is.count;
        below = is.below;
        character = record {
          one = below_equal _ _ (eqb-true _ _ tests.0);
          products = λ i j i_below j_below.
              below_equal _ _
              (eqb-true _ _
              (all_below-at (rank s) j (respects ring s values i)
              (all_below-at (rank s) i (λ i. all_below (rank s) (respects ring s values i)) tests.1 i_below) j_below));
        };
      }

  -- and a character passes
  is_passes : (values : List ℕ) → IsCharacterList ring s values → is_character ring s values ≡ true
  unfolding is_character
  is_passes values is =
      ap₂ (λ a b. a && b) (eq-eqb _ _ (ap (λ u. u.value) is.character.one))
      (all_below-all (rank s) (λ i. all_below (rank s) (respects ring s values i))
      (λ i i_below. all_below-all (rank s) (respects ring s values i) (λ j j_below. eq-eqb _ _ (ap (λ u. u.value) (is.character.products i j i_below j_below)))))

  each_character : Each (IsCharacterList ring s) (central_characters ring s)
  unfolding central_characters
  each_character =
      each_filter (is_character ring s) (IsNumberList ring.q (rank s)) (IsCharacterList ring s) passes_is (number_lists ring.q (rank s)) (number_lists_are ring.q (rank s))

  every_character : (values : List ℕ) → IsCharacterList ring s values → Contains (central_characters ring s) values
  unfolding central_characters
  every_character values is =
      in_filter (is_character ring s) (number_lists ring.q (rank s)) values
      (in_number_lists ring.q (rank s) values (record { count = is.count; below = is.below })) (is_passes values is)

  characters_ascend : Pairwise IsBefore (central_characters ring s)
  unfolding central_characters
  characters_ascend = pairwise_filter (is_character ring s) IsBefore (number_lists ring.q (rank s)) (number_lists_ascend ring.q (rank s))

  -- lists of all central characters are these
  pub characters_are : (lists : List (List ℕ)) → AreCentralCharacters ring s lists → lists ≡ central_characters ring s
  characters_are lists are =
      same_ascending IsBefore not_before_itself before_before lists (central_characters ring s) are.ascending characters_ascend
      (λ values inside. every_character values (each_at (IsCharacterList ring s) lists values are.each inside))
      (λ values inside. are.every values (each_at (IsCharacterList ring s) (central_characters ring s) values each_character inside))

-- there are as many as the rank
pub lists_characters : (ring : ModRing) → ListsCharacters ring
lists_characters ring s twist over period =
    let split = centre_splits ring s twist over period in
    subst (AreCentralCharacters ring s) (characters_are ring s split.0 split.1) split.1
