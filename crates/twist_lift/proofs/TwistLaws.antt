-- The rows of a twist by a modulus, by what is known of lifted rows and of the list of all central characters.
use Rattle.twist_lift.proofs.Names.{◌≡◌, ℕ, ◌+◌, ◌*◌, ◌/◌, ◌%◌, ◌<◌, ◌≤◌, List, [], length, get_or, sym, ap, ◌∙◌, subst, arith, div-add-mod, mul-mod_right, mul_assoc, ModRing, TwistedSubgroup, size, IsTwist, twist_table, TwistRowsAreRoots, TwistRowsMissClauses}
use Rattle.std.proofs.lemmas.List.Elements.{Contains-get_or}
use Rattle.std.proofs.lemmas.List.Sums.{count_by-le-length}
use mathlib.Core.Path.{ap₂}
use Rattle.classes.specs.Conjugacy.{representatives}
use Rattle.classes.proofs.Counting.{classes_at_most}
use Rattle.twisted.specs.Regular.{rank, is_regular}
use Rattle.centre_algebra.specs.CentralCharacters.{IsCharacterList}
use Rattle.centre_algebra.specs.Laws.{AreCentralCharacters}
use Rattle.dixon_split.specs.CentralLists.{CentralLists, central_value}
use Rattle.root_tables.proofs.MissRoots.{root_rows_miss_clauses}
use Rattle.char_lift.specs.Faults.{lift_fault, lifted_rows}
use Rattle.char_lift.proofs.RootRows.{lifted_are_roots}
use Rattle.character_lists.specs.CharacterLists.{central_characters}
use Rattle.character_lists.proofs.Lists.{each_at}
use Rattle.character_lists.proofs.Characters.{characters_are, lists_characters}
use Rattle.twist_lift.specs.TwistRows.{characters, twist_fault, twist_rows}

-- there are at most as many regular classes as places
rank_at_most : (s : TwistedSubgroup) → IsTwist s → rank s ≤ size s
unfolding rank
rank_at_most s twist =
    let some = count_by-le-length (is_regular s) (representatives s.group) in
    omega (arith, some, classes_at_most s.group twist.group)

-- the lists that were found are the characters
pub found_characters : (ring : ModRing) (s : TwistedSubgroup) (central : CentralLists) → AreCentralCharacters ring s central.lists → central.width ≡ rank s
    → central ≡ characters ring s
found_characters ring s central are width = ap₂ make width (characters_are ring s central.lists are)
  where
    make : ℕ → List (List ℕ) → CentralLists
    make w lists = record { width = w; lists = lists }

-- each of their values is a residue
pub found_below : (ring : ModRing) (s : TwistedSubgroup) (central : CentralLists) → AreCentralCharacters ring s central.lists
    → (i t : ℕ) → i < length central.lists → t < rank s → central_value central i t < ring.q
found_below ring s central are i t i_below t_below =
    let list = each_at (IsCharacterList ring s) central.lists (get_or central.lists i []) are.each (Contains-get_or central.lists i [] i_below) in
    list.below t (subst (λ n. t < n) (sym list.count) t_below)

pub twist_rows_are_roots : (ring : ModRing) → TwistRowsAreRoots ring
unfolding twist_fault twist_rows
twist_rows_are_roots ring s serves faultless =
    let are = lists_characters ring s serves.twist serves.over serves.period in
    let lifted = lifted_are_roots s ring.q ring.conductor ring.root (length (central_characters ring s)) (central_value (characters ring s)) ring.entry faultless in
    let count = lifted.0 ∙ are.count in (
      count,
      λ i below. (lifted.1 i (subst (λ n. i < n) lifted.0 below)).width,
      record {
        count = subst (λ n. n ≤ size s) (sym count) (rank_at_most s serves.twist);
        row = λ i below.
            let row = lifted.1 i (subst (λ n. i < n) lifted.0 below) in
            record { degree = row.degree; square = row.square; roots = row.roots };
      },
    )

pub twist_rows_miss_clauses : (ring : ModRing) → TwistRowsMissClauses ring
twist_rows_miss_clauses ring s serves faultless miss found =
    let rows = twist_rows_are_roots ring s serves faultless in
    let misses = root_rows_miss_clauses ring.conductor ring.entry s serves.twist (twist_table ring s) rows.2 miss found in
    (misses.0, misses.1 rows.0)

-- ---- the lift of the characters that were found
module _ (ring : ModRing) (s : TwistedSubgroup) (central : CentralLists) (same : central ≡ characters ring s) where
  pub same_fault : lift_fault s ring.q ring.conductor ring.root (length central.lists) (central_value central) ≡ twist_fault ring s
  unfolding twist_fault
  same_fault = ap (λ (found : CentralLists). lift_fault s ring.q ring.conductor ring.root (length found.lists) (central_value found)) same

  pub same_rows : lifted_rows s ring.q ring.conductor ring.root (length central.lists) (central_value central) ≡ twist_rows ring s
  unfolding twist_rows
  same_rows = ap (λ (found : CentralLists). lifted_rows s ring.q ring.conductor ring.root (length found.lists) (central_value found)) same

-- the modulus of a twist divides what its period divides
pub period_modulus : (k n e : ℕ) → k % (n * e) ≡ 0 → k % n ≡ 0
period_modulus k n e period =
    let whole : k ≡ n * e * (k / (n * e)) = let parts : n * e * (k / (n * e)) + k % (n * e) ≡ k = div-add-mod k (n * e) in omega arith in
    ap (λ a. a % n) (whole ∙ mul_assoc n e (k / (n * e))) ∙ mul-mod_right n (e * (k / (n * e)))
